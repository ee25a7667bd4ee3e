-- What is made of two rows that are tried, and of all pairs of places that are.
use Rattle.std.proofs.Common.{◌≡◌, ◌<◌, ◌≤◌, ◌&&◌, ◌||◌, ℕ, ℤ, Bool, true, false, List, [], ◌∷◌, length, get_or, if◌then◌else◌, refl, sym, ap, ap₂, ◌∙◌, arith}
use Rattle.std.specs.List.{list_any}
use Rattle.std.proofs.lemmas.List.{length-append}
use Rattle.std.proofs.lemmas.List.Folds.{list_any-append}
use Rattle.og_base.specs.Calendar.{IsRefDay}
use Rattle.og_base.specs.Ranges.{Range, holds_day}
use Rattle.og_rel.specs.declared.pair.Pair.{Pair}
use Rattle.og_ops.specs.Days.{is_hit}
use Rattle.og_par.specs.Phase.{MadeOfEach}
use Rattle.og_rel.specs.Relations.{present}
use Rattle.og_join.specs.Hits.{stored_hits}
use Rattle.og_join.specs.Tried.{do_meet, rows_meet, IsMadeOf}
use Rattle.og_join.proofs.HitLemmas.{present-hits, present-hit}
use Rattle.og_join.proofs.PlaceTests.{at_both-get}

module _ {R F : Type 0} (at : R → ℤ → F) where
  -- a test of the row of a hit, on its days
  pub any_hit : (h : Pair R) (t : F → Bool) (d : ℤ) (met : Bool) (x : F) → holds_day h.days d ≡ met → at h.row d ≡ x → list_any t (present at (stored_hits (h ∷ [])) d) ≡ (met && t x)
  any_hit h t d met x days row =
      ap (list_any t) (present-hit at d h)
      ∙ one (holds_day h.days d) ∙ ap₂ (λ m y. m && t y) days row
    where
      or_false : (b : Bool) → (b || false) ≡ b
      or_false true = refl
      or_false false = refl

      one : (m : Bool) → list_any t (if m then at h.row d ∷ [] else []) ≡ (m && t (at h.row d))
      one true = or_false (t (at h.row d))
      one false = refl

  -- a test of the rows of all that was made
  any_made : (image : ℤ → F → F) (meet : ℕ × ℕ → (F → Bool) → ℤ → Bool) (places : List (ℕ × ℕ)) (hits : List (Pair R)) → MadeOfEach (λ p made. IsMadeOf image at (meet p) made) places hits
      → (t : F → Bool) (d : ℤ) → IsRefDay d → list_any t (present at (stored_hits hits) d) ≡ list_any (λ p. meet p (λ x. t (image d x)) d) places
  any_made image meet [] hits m t d r = ap (λ all. list_any t (present at (stored_hits all) d)) m
  any_made image meet (p ∷ places) hits m t d r =
      ap (λ all. list_any t (present at (stored_hits all) d)) m.4
      ∙ ap (list_any t) (present-hits at d m.0 m.1)
      ∙ list_any-append t (present at (stored_hits m.0) d) (present at (stored_hits m.1) d)
      ∙ ap₂ (λ a b. a || b) (m.2.1 t d r) (any_made image meet places m.1 m.3 t d r)

  -- a test of the relation of all that was made
  pub any_relation : (image : ℤ → F → F) (meet : ℕ × ℕ → (F → Bool) → ℤ → Bool) (places given : List (ℕ × ℕ)) (hits : List (Pair R)) (made : List (R × List Range)) → made ≡ stored_hits hits → given ≡ places
      → MadeOfEach (λ p all. IsMadeOf image at (meet p) all) given hits → (t : F → Bool) (d : ℤ) → IsRefDay d → list_any t (present at made d) ≡ list_any (λ p. meet p (λ x. t (image d x)) d) places
  any_relation image meet places given hits made e is m t d r =
      ap (λ rel. list_any t (present at rel d)) e ∙ any_made image meet given hits m t d r ∙ ap (list_any (λ p. meet p (λ x. t (image d x)) d)) is

  -- at most one row is made of each pair of places
  pub length-made : (image : ℤ → F → F) (meet : ℕ × ℕ → (F → Bool) → ℤ → Bool) (places : List (ℕ × ℕ)) (hits : List (Pair R)) → MadeOfEach (λ p made. IsMadeOf image at (meet p) made) places hits → length hits ≤ length places
  length-made image meet [] hits m = omega (arith, ap length m)
  length-made image meet (p ∷ places) hits m =
      omega (arith, ap length m.4 ∙ length-append m.0 m.1, m.2.0, length-made image meet places m.1 m.3)

module _ {R F : Type 0} (glued : F → F → F) (at : R → ℤ → F) (holds : ℤ → F → Bool) (left right : List (R × List Range)) (m n : ℕ) (p q : R × List Range)
    (left_place : m < length left) (right_place : n < length right) (left_is : p ≡ get_or left m p) (right_is : q ≡ get_or right n q) (d : ℤ) where
  -- the rows at two places meet where these two do
  met : (t : F → Bool) → do_meet glued at holds t d p q ≡ rows_meet glued at holds left right m n t d
  met t = sym (at_both-get (do_meet glued at holds t d) left right m n p q left_place right_place left_is right_is)

  -- where the two meet on no day, nothing is made of them
  pub rows_meet-no_day : (t : F → Bool) → is_hit glued holds (at p.0) (at q.0) p.1 q.1 d ≡ false → false ≡ rows_meet glued at holds left right m n t d
  rows_meet-no_day t none = sym (ap (λ b. b && t (glued (at p.0 d) (at q.0 d))) none) ∙ met t

  -- a hit with the image of the two glued is what is made of them
  pub rows_meet-hit : (image : F → F) (t : F → Bool) (h : Pair R) → holds_day h.days d ≡ is_hit glued holds (at p.0) (at q.0) p.1 q.1 d → at h.row d ≡ image (glued (at p.0 d) (at q.0 d))
      → list_any t (present at (stored_hits (h ∷ [])) d) ≡ rows_meet glued at holds left right m n (λ x. t (image x)) d
  rows_meet-hit image t h days row = any_hit at h t d (is_hit glued holds (at p.0) (at q.0) p.1 q.1 d) (image (glued (at p.0 d) (at q.0 d))) days row ∙ met (λ x. t (image x))
