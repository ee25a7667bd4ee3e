-- What is left of a list, and its first.
use Rattle.std.proofs.Common.{◌≡◌, ◌∷◌, ◌<◌, ℕ, zero, suc, List, [], drop, length, refl, arith}

module _ {A : Type 0} where
  -- what is left after the first of what is left
  pub drop-next : (n : ℕ) (xs rest : List A) (x : A) → drop n xs ≡ x ∷ rest → drop (suc n) xs ≡ rest
  drop-next zero [] rest x e = cc e
  drop-next zero (y ∷ ys) rest x e = cc e
  drop-next (suc n) [] rest x e = cc e
  drop-next (suc n) (y ∷ ys) rest x e = drop-next n ys rest x e

  -- something is left before the end
  pub drop-some : {G : Type 0} (n : ℕ) (xs : List A) → n < length xs → drop n xs ≡ [] → G
  drop-some n [] within e = absurd (omega (arith, within))
  drop-some zero (y ∷ ys) within e = cc e
  drop-some (suc n) (y ∷ ys) within e = drop-some n ys (omega (arith, within)) e

  -- lists that are the same have the same first
  pub same_first : {x y : A} {xs ys : List A} → x ∷ xs ≡ y ∷ ys → x ≡ y
  same_first e = cc e

  -- and the same after it
  pub same_rest : {x y : A} {xs ys : List A} → x ∷ xs ≡ y ∷ ys → xs ≡ ys
  same_rest e = cc e

  -- the first of what is left, and the others
  pub left_first : (xs : List A) (n : ℕ) → n < length xs → (x : A) × (rest : List A) × (drop n xs ≡ x ∷ rest)
  left_first [] n within = absurd (omega (arith, within))
  left_first (y ∷ ys) zero within = (y, ys, refl)
  left_first (y ∷ ys) (suc n) within = left_first ys n (omega (arith, within))
