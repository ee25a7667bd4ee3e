use Rattle.std.proofs.Common.{◌∙◌, ◌∷◌, sym, ap, subst, arith}
use Rattle.std.proofs.lemmas.Int.{ints}
use Rattle.og_base.specs.Ranges.{Range, IsRange}
use Rattle.og_base.proofs.SetTexts.{ends_of_range, range_of_ends, one_ends, same_lower_text}
use Rattle.og_base.proofs.set_text.range_before.Goals as goal

pub returns-in_err-lower-clause-none : goal.returns-in_err-lower-clause-none
returns-in_err-lower-clause-none c =
    rw c.from_residual.ensures (λ r after h. c.in_err-lower.ensures.none _ _ _ (ends_of_range _ r (c.args.byte ∷ after) h.range h.joined))

pub returns-in_err-after-clause-none : goal.returns-in_err-after-clause-none
returns-in_err-after-clause-none c =
    rw c.from_residual-in_err-after.ensures (λ r after h.
    c.in_err-after.ensures.none after (one_ends _ _ _ _ _ _ _ c.in_ok-lower.ensures.cut (ends_of_range _ r (c.args.byte ∷ after) h.range h.joined)).2)

pub returns-in_err-range-clause-none : goal.returns-in_err-range-clause-none
returns-in_err-range-clause-none c =
    rw c.from_residual-in_err-range.ensures (λ r after h.
    let ends = one_ends _ _ _ _ _ _ _ c.in_ok-lower.ensures.cut (ends_of_range _ r (c.args.byte ∷ after) h.range h.joined) in
    c.in_err-range.ensures.none r h.range ends.0 ends.1)

pub returns-then-number-clause-none : goal.returns-then-number-clause-none
returns-then-number-clause-none c r after h =
    let ends = one_ends _ _ _ _ _ _ _ c.in_ok-lower.ensures.cut (ends_of_range _ r (c.args.byte ∷ after) h.range h.joined) in
    let is = subst IsRange c.range.view_is c.range.invariant in
    let seen = ap (λ (x : Range). x.lo) c.range.view_is in
    let lo = same_lower_text c.in_ok-range.range.lo r.lo is.lo_in h.range.lo_in (sym c.in_ok-range.ensures.read.0 ∙ ends.0) in
    omega (arith, ints, seen, lo, h.later, c.number.ensures.value, c.number-2.ensures.value, c.if-number.true)

pub returns-clause-read : goal.returns-clause-read
returns-clause-read c = record {
  range = subst IsRange c.range.view_is c.range.invariant;
  later = omega (arith, ints, ap (λ (x : Range). x.lo) c.range.view_is, c.number.ensures.value, c.number-2.ensures.value, c.if-number.false);
  joined = range_of_ends _ _ _ _ c.in_ok-range.range (rw c.in_ok-after.ensures.behind at c.in_ok-lower.ensures.cut) c.in_ok-range.ensures.read.0 c.in_ok-range.ensures.read.1;
}
