use Rattle.std.proofs.Common.{int_le, rules, arith}
use Rattle.std.proofs.lemmas.Int.{ints}
use Rattle.std.proofs.lemmas.List.Sorted.{IsPartitionPoint-from_clause}
use Rattle.og_base.specs.Calendar.{before_all}
use Rattle.og_base.proofs.RangeLemmas.{IsPartitionedBy-day, holds_day-counted}
use Rattle.og_base.proofs.rt_set.RtSet.contains.Goals as goal

pub returns : goal.returns
returns c =
    let day = c.number-day.result in
    let point = IsPartitionPoint-from_clause (λ y. int_le y day) _ _ c.partition_point-before.ensures.partitioned (rw c.as_slice.ensures (IsPartitionedBy-day before_all _ day c.self.invariant)) (λ a r q k. search rules) in
    rw (← c.self.view_is, ← c.number-day.ensures.value)
    (holds_day-counted c.self.inside.boundaries _ day c.self.invariant (omega (arith, ints, c.number-day.ensures.range))
    (rw (← c.as_slice.ensures) c.partition_point-before.ensures.bound) (rw c.as_slice.ensures at point))
