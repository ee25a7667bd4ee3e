-- Steps of the loops over the parts of a condition.
use Rattle.std.proofs.Common.{◌≡◌, ◌+◌, ◌<◌, ◌&&◌, ◌||◌, ℕ, Bool, true, false, List, length, get_or, take, sym, ap, ap₂, ◌∙◌}
use Rattle.std.specs.List.{list_all, list_any}
use Rattle.std.proofs.lemmas.List.Folds.{list_all_at, list_all_more, list_any_at, list_any_more}

module _ {A : Type 0} (p : A → Bool) (xs : List A) (i : ℕ) (x : A) (b : Bool) (l : i < length xs) (is : x ≡ get_or xs i x) (tested : b ≡ p x) where
  -- what the test says of the place
  at_place : p (get_or xs i x) ≡ b
  at_place = ap p (sym is) ∙ sym tested

  -- a part for which the test fails, so not all pass
  pub one_fails : b ≡ false → list_all p xs ≡ false
  one_fails e = list_all_at p xs i x l (at_place ∙ e)

  -- one more part that passes
  pub one_more_passes : list_all p (take i xs) ≡ true → b ≡ true → list_all p (take (i + 1) xs) ≡ true
  one_more_passes before e = list_all_more p xs i x l ∙ ap₂ (λ c e. c && e) before (at_place ∙ e)

  -- a part that passes, so one does
  pub one_passes : b ≡ true → list_any p xs ≡ true
  one_passes e = list_any_at p xs i x l (at_place ∙ e)

  -- one more part for which the test fails
  pub one_more_fails : list_any p (take i xs) ≡ false → b ≡ false → list_any p (take (i + 1) xs) ≡ false
  one_more_fails before e = list_any_more p xs i x l ∙ ap₂ (λ c e. c || e) before (at_place ∙ e)
