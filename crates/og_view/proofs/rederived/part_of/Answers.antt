use Rattle.std.proofs.Common.{ap, ◌∙◌}
use Rattle.std.specs.Option.{option_map}
use Rattle.std.proofs.lemmas.Option.{get_or_from_slice_get}
use Rattle.og_db.specs.Deltas.{rest_at}
use Rattle.og_db.specs.Held.{rows_of}
use Rattle.og_reduce.specs.Sieves.{sifted}
use Rattle.og_view.proofs.rederived.part_of.Goals as goal

pub returns : goal.returns
returns c table there = (
  c.in_ok-rows.ensures ∙ ap (λ t. option_map (sifted c.in_ok-sieve.sieve) (rows_of (rest_at c.args.over.now.name.now c.args.over.now.delta.now c.args.over.now.tables.now) t.name)) (get_or_from_slice_get c.args.tables.now c.args.place table c.index-tables-place.result there),
  c.in_ok-sieve.ensures table there,
)
