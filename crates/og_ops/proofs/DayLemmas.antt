-- Days that a set in normal form holds.
use Rattle.std.proofs.Common.{◌≡◌, ◌≢◌, ◌&&◌, ℤ, Bool, List, [], ◌∷◌, refl, sym, ap₂, ◌∙◌, arith}
use Rattle.og_base.specs.Calendar.{IsRefDay}
use Rattle.og_base.specs.Ranges.{Range, IsNormal, holds_day}
use Rattle.og_ops.specs.Days.{OnSomeDay}

-- a set of days that is not empty holds a reference day
pub some_day : (days : List Range) → IsNormal days → days ≢ [] → OnSomeDay (holds_day days)
some_day [] n h = absurd (h refl)
some_day (r ∷ rs) n h = (r.lo, n.0.lo_in, search arith)

-- and so the truth that the set tells holds on some reference day
pub some_day_of : (days : List Range) (p : ℤ → Bool) → IsNormal days → days ≢ [] → ((d : ℤ) → IsRefDay d → holds_day days d ≡ p d) → OnSomeDay p
some_day_of days p n h tells = at (some_day days n h)
  where
    at : OnSomeDay (holds_day days) → OnSomeDay p
    at some = (some.0, some.1, sym (tells some.0 some.1) ∙ some.2)

-- the truth that both rows are present and the condition holds, from the truths of its parts
pub hit_truth : (hit here met both held : Bool) → hit ≡ (here && met) → here ≡ both → met ≡ held → hit ≡ (both && held)
hit_truth hit here met both held e b m = e ∙ ap₂ (λ x y. x && y) b m
