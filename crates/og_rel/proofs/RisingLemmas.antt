-- Lists that rise, and one that comes before another.
use Rattle.std.proofs.Common.{◌≡◌, ◌++◌, ◌-◌, suc, List, [], ◌∷◌, length, get_or, Ordering, Less, arith, ap, sym, subst, ◌∙◌}
use Rattle.std.specs.Cmp.{IsTotalOrder}
use Rattle.std.specs.List.{AllByRecursion}
use Rattle.std.specs.List.Sorted.{IsStrictlySortedBy}
use Rattle.std.proofs.lemmas.List.{append-nil}

module _ {F : Type 0} {cmp : F → F → Ordering} (total : IsTotalOrder cmp) where
  -- what comes before a value comes before all that come after it
  after_less : (x y : F) (zs : List F) → cmp x y ≡ Less → AllByRecursion (λ z. cmp y z ≡ Less) zs → AllByRecursion (λ z. cmp x z ≡ Less) zs
  after_less x y [] l h = tt
  after_less x y (z ∷ zs) l h = (total.trans x y z l h.0, after_less x y zs l h.1)

  -- two rising lists rise, one after the other, where the end of the first comes before the start of the second
  rises_on : (xs : List F) (y : F) (ys : List F) (d : F) → IsStrictlySortedBy cmp xs → IsStrictlySortedBy cmp (y ∷ ys)
      → cmp (get_or xs (length xs - 1) d) y ≡ Less → IsStrictlySortedBy cmp (xs ++ y ∷ ys)
  unfolding IsStrictlySortedBy
  rises_on [] y ys d first second l = second
  rises_on (x ∷ []) y ys d first second l = ((l, after_less x y ys l second.0), second)
  rises_on (x ∷ w ∷ xs) y ys d first second l =
      let place : length (x ∷ w ∷ xs) - 1 ≡ suc (length (w ∷ xs) - 1) = omega arith in
      let rest = rises_on (w ∷ xs) y ys d first.1 second (ap (λ k. cmp (get_or (x ∷ w ∷ xs) k d) y) (sym place) ∙ l) in
      ((first.0.0, after_less x w (xs ++ y ∷ ys) first.0.0 rest.0), rest)

  -- the same of any two, told by what stands at the end and at the start
  pub rises_after : (xs ys : List F) (d e : F) → IsStrictlySortedBy cmp xs → IsStrictlySortedBy cmp ys → cmp (get_or xs (length xs - 1) d) (get_or ys 0 e) ≡ Less → IsStrictlySortedBy cmp (xs ++ ys)
  rises_after xs [] d e first second l = subst (IsStrictlySortedBy cmp) (sym (append-nil xs)) first
  rises_after xs (y ∷ ys) d e first second l = rises_on xs y ys d first second l
