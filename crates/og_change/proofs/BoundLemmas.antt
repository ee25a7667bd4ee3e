-- Where what is so on the days of a range is not so beside it.
use Rattle.std.proofs.Common.{◌≡◌, ◌↔◌, ◌-ℤ◌, ℤ, pos, Bool, true, false, not, IsTrue, Option, Some, None, refl, sym, ◌∙◌, subst, true≢false}
use Rattle.std.specs.Option.{SomeIff}
use Rattle.og_base.specs.Calendar.{IsRefDay}
use Rattle.og_base.specs.Ranges.{Range}
use Rattle.og_change.specs.Same.{IsBounded}

-- there is the day, and it is so on it
abbrev pub IsSoOn : (ℤ → Type 0) → Option ℤ → Type 0
IsSoOn IsSo day = (e : ℤ) × (day ≡ Some e) × IsSo e

-- a day that there is, where it is so
there_is : (IsSo : ℤ → Type 0) (day : Option ℤ) (n : ℤ) → SomeIff day (IsRefDay n) n → IsRefDay n → IsSo n → IsSoOn IsSo day
there_is IsSo None n tells is so = absurd (tells is)
there_is IsSo (Some e) n tells is so = (e, refl, subst IsSo (sym tells.1) so)

-- such a day is a reference day on which it is so
it_is : (IsSo : ℤ → Type 0) (day : Option ℤ) (n : ℤ) → SomeIff day (IsRefDay n) n → IsSoOn IsSo day → IsRefDay n × IsSo n
it_is IsSo None n tells so = let e = so.1 in cc
it_is IsSo (Some e) n tells so = let e = so.1 in let k : so.0 ≡ n = cc (e, tells.1) in (tells.0, subst IsSo k so.2)

-- where it is so on the day before the range, it is not bounded
pub bounded-not : (IsSo : ℤ → Type 0) (range : Range) (before : Option ℤ) (is_before : Bool) → SomeIff before (IsRefDay (range.lo -ℤ pos 1)) (range.lo -ℤ pos 1)
    → IsTrue is_before ↔ IsSoOn IsSo before → is_before ≡ true → IsTrue false ↔ IsBounded IsSo range
bounded-not IsSo range before is_before there tells e = (
  λ t. absurd (true≢false (sym t)),
  λ b. let h = it_is IsSo before (range.lo -ℤ pos 1) there (tells.0 e) in absurd (b.before h.0 h.1),
)

-- where not, it is bounded exactly where it is not so on the day after the range
pub bounded-after : (IsSo : ℤ → Type 0) (range : Range) (before after : Option ℤ) (is_before is_after : Bool)
    → SomeIff before (IsRefDay (range.lo -ℤ pos 1)) (range.lo -ℤ pos 1) → SomeIff after (IsRefDay range.hi) range.hi
    → IsTrue is_before ↔ IsSoOn IsSo before → IsTrue is_after ↔ IsSoOn IsSo after → is_before ≡ false → IsTrue (not is_after) ↔ IsBounded IsSo range
bounded-after IsSo range before after is_before true there_before there_after tells_before tells_after e = (
  λ t. absurd (true≢false (sym t)),
  λ b. let h = it_is IsSo after range.hi there_after (tells_after.0 refl) in absurd (b.after h.0 h.1),
)
bounded-after IsSo range before after is_before false there_before there_after tells_before tells_after e = (
  λ _. record {
    before = λ r so. absurd (true≢false (sym (tells_before.1 (there_is IsSo before (range.lo -ℤ pos 1) there_before r so)) ∙ e));
    after = λ r so. absurd (true≢false (sym (tells_after.1 (there_is IsSo after range.hi there_after r so))));
  },
  λ _. refl,
)
