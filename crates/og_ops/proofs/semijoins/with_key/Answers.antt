use Rattle.std.proofs.Common.{rules}
use Rattle.std.specs.Ordering.{is_lt}
use Rattle.std.proofs.lemmas.List.{take_rest}
use Rattle.std.proofs.lemmas.List.Sorted.{IsPartitionPoint-from_clause}
use Rattle.og_ops.proofs.KeyLemmas.{partitioned_below, partitioned_rest, with_key_between}
use Rattle.og_ops.proofs.semijoins.with_key.Goals as goal

pub count_within-requires : goal.count_within-requires
count_within-requires g c =
    partitioned_rest g.met.K.Ord.total (λ s. s.key) c.args.key.now c.args.rows.now _ c.partition_point-first.result (take_rest c.args.rows.now c.partition_point-first.result) c.requires

pub returns : goal.returns
returns g c =
    let total = g.met.K.Ord.total in
    let key = c.args.key.now in
    let rows = c.args.rows.now in
    let first = c.partition_point-first.result in
    with_key_between total (λ s. s.key) key rows _ first c.count_within.result (take_rest rows first) c.partition_point-first.ensures.bound c.count_within.ensures.bound
    (IsPartitionPoint-from_clause (λ s. is_lt (g.K.Ord.cmp s.key key)) _ _ c.partition_point-first.ensures.partitioned (partitioned_below total (λ s. s.key) key rows c.requires) (λ a r q k. search rules))
    c.count_within.ensures.within
