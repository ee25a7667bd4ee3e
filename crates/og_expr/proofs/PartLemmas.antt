-- Steps of the loops over the parts of a condition, on one day.
use Rattle.std.proofs.Common.{◌≡◌, ◌+◌, ◌<◌, ◌&&◌, ◌||◌, ℕ, Bool, List, length, get_or, take, sym, ap, ap₂, ◌∙◌}
use Rattle.std.specs.List.{list_all, list_any}
use Rattle.std.proofs.lemmas.List.Folds.{list_all_more, list_any_more}

module _ {A : Type 0} (p : A → Bool) (xs : List A) (i : ℕ) (x : A) (before part now : Bool) (l : i < length xs) (is : x ≡ get_or xs i x) (tested : part ≡ p x) where
  -- the days of the parts so far, met with those of one more, are those of one part more
  pub all_and_one_more : before ≡ list_all p (take i xs) → now ≡ (before && part) → now ≡ list_all p (take (i + 1) xs)
  all_and_one_more e step = step ∙ ap₂ (λ b c. b && c) e (tested ∙ ap p is) ∙ sym (list_all_more p xs i x l)

  -- the days of the parts so far, united with those of one more, are those of one part more
  pub any_or_one_more : before ≡ list_any p (take i xs) → now ≡ (before || part) → now ≡ list_any p (take (i + 1) xs)
  any_or_one_more e step = step ∙ ap₂ (λ b c. b || c) e (tested ∙ ap p is) ∙ sym (list_any_more p xs i x l)
