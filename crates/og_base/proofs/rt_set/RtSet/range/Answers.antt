use Rattle.std.proofs.Common.{length, Some, ap, subst, arith, ◌∙◌}
use Rattle.std.proofs.lemmas.Int.{ints}
use Rattle.og_base.specs.Calendar.{before_all}
use Rattle.og_base.specs.Ranges.{IsRange}
use Rattle.og_base.proofs.RangeLemmas.{lower_within, range_at-read, slice_get-ranges_of, IsRange-range_at}
use Rattle.og_base.proofs.rt_set.RtSet.range.Goals as goal

pub overflow_mul-lo : goal.overflow_mul-lo
overflow_mul-lo c = let h = lower_within c.self.inside.boundaries c.args.i (rw (← c.self.view_is) at c.requires) in omega (arith, h, ap length c.as_slice-boundaries.ensures, c.as_slice-boundaries.type_inv)

pub offset_bounds-boundaries-i : goal.offset_bounds-boundaries-i
offset_bounds-boundaries-i c = let h = lower_within c.self.inside.boundaries c.args.i (rw (← c.self.view_is) at c.requires) in omega (arith, h, ap length c.as_slice-boundaries.ensures, c.as_slice-boundaries.type_inv)

pub bounds-boundaries-i : goal.bounds-boundaries-i
bounds-boundaries-i c = rw c.as_slice-boundaries.ensures (lower_within c.self.inside.boundaries c.args.i (rw (← c.self.view_is) at c.requires))

pub overflow_mul-i : goal.overflow_mul-i
overflow_mul-i c = let h = lower_within c.self.inside.boundaries c.args.i (rw (← c.self.view_is) at c.requires) in omega (arith, h, ap length c.as_slice-boundaries.ensures, c.as_slice-boundaries.type_inv)

pub overflow_add-i : goal.overflow_add-i
overflow_add-i c = let h = lower_within c.self.inside.boundaries c.args.i (rw (← c.self.view_is) at c.requires) in omega (arith, h, ap length c.as_slice-boundaries.ensures, c.as_slice-boundaries.type_inv)

pub invariant_of-result : goal.invariant_of-result
invariant_of-result c =
    let bs = c.self.inside.boundaries in
    let within = rw (← c.self.view_is) at c.requires in
    let read = range_at-read bs c.args.i c.index-boundaries-i.result c.end_at-hi.result (lower_within bs c.args.i within)
    (rw c.as_slice-boundaries.ensures at c.index-boundaries-i.is) (rw c.as_slice-boundaries.ensures at c.end_at-hi.ensures) in
    subst IsRange read (IsRange-range_at before_all bs c.args.i (omega (arith, ints)) c.self.invariant within)

pub returns : goal.returns
returns c =
    let bs = c.self.inside.boundaries in
    let within = rw (← c.self.view_is) at c.requires in
    let read = range_at-read bs c.args.i c.index-boundaries-i.result c.end_at-hi.result (lower_within bs c.args.i within)
    (rw c.as_slice-boundaries.ensures at c.index-boundaries-i.is) (rw c.as_slice-boundaries.ensures at c.end_at-hi.ensures) in
    rw (← c.self.view_is) (slice_get-ranges_of bs c.args.i within ∙ ap (λ r. Some r) read)
