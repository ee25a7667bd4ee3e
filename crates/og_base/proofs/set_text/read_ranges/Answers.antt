use Rattle.std.proofs.Common.{[], subst, sym}
use Rattle.og_base.specs.declared.set_text.Front.{Front}
use Rattle.og_base.specs.SetTexts.{IsRangeBefore}
use Rattle.og_base.proofs.SetTexts.{IsRead, IsRead-next, IsRead-end, IsRead-none, not_last, none_left, some_left}
use Rattle.og_base.proofs.set_text.read_ranges.Goals as goal

pub each-preserved : goal.each-preserved
each-preserved c =
    let next : IsRead c.args.text.now c.push_range.new.boundaries c.in-Some.front.range.hi c.in-Some.front.after.now = rw c.in_ok-push_range.ensures (IsRead-next c.each.invariant c.in-Some.front.range c.in-Some.front.after.now c.in-Some.ensures.read) in
    subst (λ (f : Front). IsRead c.args.text.now c.push_range.new.boundaries f.range.hi f.after.now) (sym c.front.view_is) next

pub returns-in_default-range_before-clause-not_a_set : goal.returns-in_default-range_before-clause-not_a_set
returns-in_default-range_before-clause-not_a_set c _ =
    IsRead-none c.each.invariant c.in_default.ensures.none (λ r h. c.in_default-range_before.ensures.none r [] h)

pub returns-then-not-is_empty-clause-not_a_set : goal.returns-then-not-is_empty-clause-not_a_set
returns-then-not-is_empty-clause-not_a_set c _ =
    IsRead-none c.each.invariant c.in_default.ensures.none (not_last c.in-Some-range_before.ensures.read (some_left _ _ c.is_empty.ensures c.if-not-is_empty.true))

pub of_boundaries-requires : goal.of_boundaries-requires
of_boundaries-requires c =
    let last = subst (IsRangeBefore 125 _ _ c.in-Some-range_before.front.range) (none_left _ _ c.is_empty.ensures c.if-not-is_empty.false) c.in-Some-range_before.ensures.read in
    rw c.in_ok-push_range-2.ensures (IsRead-end c.each.invariant c.in-Some-range_before.front.range last).0

pub returns-clause-read : goal.returns-clause-read
returns-clause-read c =
    let last = subst (IsRangeBefore 125 _ _ c.in-Some-range_before.front.range) (none_left _ _ c.is_empty.ensures c.if-not-is_empty.false) c.in-Some-range_before.ensures.read in
    rw (c.of_boundaries.ensures, c.in_ok-push_range-2.ensures) (IsRead-end c.each.invariant c.in-Some-range_before.front.range last).1
