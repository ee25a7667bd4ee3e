use Rattle.std.proofs.Common.{◌≡◌, ◌+◌, ◌≤ℤ◌, Some, slice_get, sym, ap, ◌∙◌, subst, arith}
use Rattle.std.proofs.lemmas.Int.{ints}
use Rattle.og_base.specs.Calendar.{IsRefDay}
use Rattle.og_base.specs.Ranges.{Range}
use Rattle.og_change.proofs.AroundLemmas.{IsLeft, before_end, left-next, longest-before, longest-within, longest-after, left-first}
use Rattle.og_change.proofs.around.around.Goals as goal

pub places-init : goal.places-init
places-init c = record { left = left-first c.args.set.now c.args.d (subst IsRefDay c.number-day.ensures.value c.number-day.ensures.range); low_in = (omega (arith, ints), omega (arith, ints)) }

pub places-preserved : goal.places-preserved
places-preserved c =
    let r : Range = record { lo = c.range.inside.lo; hi = c.range.inside.hi } in
    let d_in = subst IsRefDay c.number-day.ensures.value c.number-day.ensures.range in
    let e : slice_get c.args.set.now c.places.i ≡ Some r = c.range-range.ensures ∙ ap (λ q. Some q) (sym c.range.view_is) in
    let end_in = c.in-Some.ensures in
    let l : r.lo ≤ℤ c.args.d = omega (arith, ints, c.if-day-number.false, c.number.ensures.value, c.number-day.ensures.value) in
    let h : r.hi ≤ℤ c.args.d = omega (arith, ints, c.if-day-number-2.false, c.number-in-places.ensures.value, c.number-day.ensures.value, end_in.1) in
    record {
      left = subst (λ low. IsLeft c.args.set.now c.args.d low (c.places.i + 1)) (sym end_in.1)
          (left-next c.args.set.now c.args.d d_in c.normal.ensures c.places.low c.places.i c.places.invariant.left r e l h);
      low_in = subst IsRefDay (sym end_in.1) end_in.0;
    }

pub returns-then-day-number : goal.returns-then-day-number
returns-then-day-number c =
    let r : Range = record { lo = c.range.inside.lo; hi = c.range.inside.hi } in
    let d_in = subst IsRefDay c.number-day.ensures.value c.number-day.ensures.range in
    let e : slice_get c.args.set.now c.places.i ≡ Some r = c.range-range.ensures ∙ ap (λ q. Some q) (sym c.range.view_is) in
    rw c.of-hi.ensures
    (longest-before c.args.set.now c.args.d d_in c.normal.ensures c.places.low c.places.i c.places.invariant.left r e
    (omega (arith, ints, c.if-day-number.true, c.number.ensures.value, c.number-day.ensures.value)))

pub returns-in_default : goal.returns-in_default
returns-in_default c =
    let r : Range = record { lo = c.range.inside.lo; hi = c.range.inside.hi } in
    let d_in = subst IsRefDay c.number-day.ensures.value c.number-day.ensures.range in
    let e : slice_get c.args.set.now c.places.i ≡ Some r = c.range-range.ensures ∙ ap (λ q. Some q) (sym c.range.view_is) in
    longest-within c.args.set.now c.args.d d_in c.normal.ensures c.places.low c.places.i c.places.invariant.left r e
    (omega (arith, ints, c.if-day-number.false, c.number.ensures.value, c.number-day.ensures.value))
    (before_end c.args.d r.lo r.hi d_in c.range.invariant.some c.range.invariant.lo_in c.in_default.ensures)

pub returns-then-day-number-2 : goal.returns-then-day-number-2
returns-then-day-number-2 c =
    let r : Range = record { lo = c.range.inside.lo; hi = c.range.inside.hi } in
    let d_in = subst IsRefDay c.number-day.ensures.value c.number-day.ensures.range in
    let e : slice_get c.args.set.now c.places.i ≡ Some r = c.range-range.ensures ∙ ap (λ q. Some q) (sym c.range.view_is) in
    let end_in = c.in-Some.ensures in
    longest-within c.args.set.now c.args.d d_in c.normal.ensures c.places.low c.places.i c.places.invariant.left r e
    (omega (arith, ints, c.if-day-number.false, c.number.ensures.value, c.number-day.ensures.value))
    (omega (arith, ints, c.if-day-number-2.true, c.number-in-places.ensures.value, c.number-day.ensures.value, end_in.1))

pub invariant_of-result-3 : goal.invariant_of-result-3
invariant_of-result-3 c = record { lo_in = c.places.invariant.low_in; hi_in = (omega (arith, ints), omega (arith, ints)); some = omega (arith, ints, c.places.invariant.low_in) }

pub returns : goal.returns
returns c =
    let d_in = subst IsRefDay c.number-day.ensures.value c.number-day.ensures.range in
    longest-after c.args.set.now c.args.d d_in c.normal.ensures c.places.low c.places.i c.places.invariant.left (omega (arith, c.places-test.false, c.range_count-i-end.ensures))
