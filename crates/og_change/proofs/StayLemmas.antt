-- Rows that stay through a range of days.
use Rattle.std.proofs.Common.{◌≡◌, ◌++◌, ◌+◌, ◌<◌, ◌&&◌, ℕ, ℤ, Bool, true, false, List, [], ◌∷◌, length, get_or, take, if◌then◌else◌, refl, sym, ap, ap₂, ◌∙◌}
use Rattle.og_base.specs.Ranges.{Range, IsRange, in_range}
use Rattle.og_rel.specs.Relations.{present}
use Rattle.og_rel.proofs.PresentLemmas.{at_place, present-more}
use Rattle.og_change.specs.Same.{IsAround}
use Rattle.og_change.proofs.AroundLemmas.{around-shared}

-- a row that is present on both days or on neither, and where it is present has one value on both, is one row or none on both
pub one_stays : {F : Type 0} (x y : F) (held there : Bool) → held ≡ there → (there ≡ true → x ≡ y) → (if held then x ∷ [] else []) ≡ (if there then y ∷ [] else [])
one_stays x y held true e same = rw e (ap (λ z. z ∷ []) (same refl))
one_stays x y held false e same = rw e refl

-- where the first rows stay through a range, and one more through another, all of these stay through the days that both share
pub stay_more : {R F : Type 0} (at : R → ℤ → F) (rel : List (R × List Range)) (i : ℕ) (row : R) (days : List Range) (d : ℤ) (first second both : Range) → i < length rel
    → ((p : R × List Range) → row ≡ (get_or rel i p).0) → ((p : R × List Range) → days ≡ (get_or rel i p).1)
    → IsAround (λ e. present at (take i rel) e ≡ present at (take i rel) d) d first → IsAround (λ e. present at ((row, days) ∷ []) e ≡ present at ((row, days) ∷ []) d) d second
    → IsRange both → ((e : ℤ) → in_range both e ≡ (in_range first e && in_range second e)) → IsAround (λ e. present at (take (i + 1) rel) e ≡ present at (take (i + 1) rel) d) d both
stay_more {R} at rel i row days d first second both l row_is days_is a b is holds =
    let p : R × List Range = (row, days) in
    let place = at_place rel i row days row_is days_is in
    around-shared (λ e. present at (take i rel) e ≡ present at (take i rel) d) (λ e. present at (p ∷ []) e ≡ present at (p ∷ []) d) (λ e. present at (take (i + 1) rel) e ≡ present at (take (i + 1) rel) d)
    d first second both a b is holds
    (λ e f g. present-more at rel i p e l place ∙ ap₂ (λ xs ys. xs ++ ys) f g ∙ sym (present-more at rel i p d l place))
