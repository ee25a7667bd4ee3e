-- Lists in another order: what is made of one element by element is the same in another order, and a relation has the same rows at a day.
use Rattle.std.proofs.Common.{◌≡◌, ◌++◌, ◌<◌, ℕ, ℤ, zero, suc, List, [], ◌∷◌, length, get_or, set, swap, map, Ordering, refl, sym, ap, ap₂, subst, ◌∙◌, arith}
use Rattle.std.specs.List.Sorted.{IsPermutation}
use lib.Seq.{map-set}
use Rattle.std.specs.List.{All}
use Rattle.std.proofs.lemmas.List.{get_or-map}
use Rattle.std.proofs.lemmas.List.Elements.{All-set}
use Rattle.std.proofs.lemmas.List.Sorted.{IsPermutation-append_comm, IsPermutation-append_left, IsPermutation-append_right, IsPermutation-keeps, IsPermutation-refl, IsPermutation-trans}
use Rattle.og_base.specs.Ranges.{Range}
use Rattle.og_base.specs.Set.{IsExactOrder}
use Rattle.og_rel.specs.Relations.{present, relation_at}
use Rattle.og_rel.proofs.PresentLemmas.{present-append}
use Rattle.og_rel.proofs.WorkerLemmas.{set_of-permutation}

-- where f of lists one after the other is f of each
module _ {X Y : Type 0} (f : List X → List Y) (along : (xs ys : List X) → f (xs ++ ys) ≡ f xs ++ f ys) where
  -- f of two elements and more
  of_two : (x y : X) (xs : List X) → f (x ∷ y ∷ xs) ≡ (f (x ∷ []) ++ f (y ∷ [])) ++ f xs
  of_two x y xs = along (x ∷ y ∷ []) xs ∙ ap (λ l. l ++ f xs) (along (x ∷ []) (y ∷ []))

  -- behind one element
  skip : (x : X) (xs ys : List X) → IsPermutation (f xs) (f ys) → IsPermutation (f (x ∷ xs)) (f (x ∷ ys))
  skip x xs ys h =
      subst (λ l. IsPermutation l (f (x ∷ ys))) (sym (along (x ∷ []) xs))
      (subst (IsPermutation (f (x ∷ []) ++ f xs)) (sym (along (x ∷ []) ys)) (IsPermutation-append_right (f (x ∷ [])) (f xs) (f ys) h))

  -- with the first two turned
  turn : (x y : X) (xs : List X) → IsPermutation (f (x ∷ y ∷ xs)) (f (y ∷ x ∷ xs))
  turn x y xs =
      subst (λ l. IsPermutation l (f (y ∷ x ∷ xs))) (sym (of_two x y xs))
      (subst (IsPermutation ((f (x ∷ []) ++ f (y ∷ [])) ++ f xs)) (sym (of_two y x xs))
      (IsPermutation-append_left (f xs) (f (x ∷ []) ++ f (y ∷ [])) (f (y ∷ []) ++ f (x ∷ [])) (IsPermutation-append_comm (f (x ∷ [])) (f (y ∷ [])))))

  chain : (xs ys zs : List X) → IsPermutation (f xs) (f ys) → IsPermutation (f ys) (f zs) → IsPermutation (f xs) (f zs)
  chain xs ys zs = IsPermutation-trans (f xs) (f ys) (f zs)

  -- with a later one as the first
  to_head : (l : List X) (j : ℕ) (x d : X) → j < length l → IsPermutation (f (x ∷ l)) (f (get_or l j d ∷ set l j x))
  to_head [] j x d h = absurd (omega arith)
  to_head (y ∷ l) zero x d h = turn x y l
  to_head (y ∷ l) (suc j) x d h = chain _ _ _ (turn x y l) (chain _ _ _ (skip y _ _ (to_head l j x d (omega arith))) (turn y (get_or l j d) (set l j x)))

  -- with two exchanged
  exchanged : (l : List X) (i j : ℕ) (d : X) → i < length l → j < length l → IsPermutation (f l) (f (set (set l i (get_or l j d)) j (get_or l i d)))
  exchanged [] i j d p q = absurd (omega arith)
  exchanged (x ∷ l) zero zero d p q = IsPermutation-refl (f (x ∷ l))
  exchanged (x ∷ l) zero (suc j) d p q = to_head l j x d (omega arith)
  exchanged (x ∷ l) (suc i) zero d p q = to_head l i x d (omega arith)
  exchanged (x ∷ l) (suc i) (suc j) d p q = skip x _ _ (exchanged l i j d (omega arith) (omega arith))

  swapped : (l : List X) (i j : ℕ) → i < length l → j < length l → IsPermutation (f l) (f (swap l i j))
  swapped [] i j p q = IsPermutation-refl (f [])
  swapped (x ∷ l) i j p q = exchanged (x ∷ l) i j x p q

  -- f of a list in another order
  pub IsPermutation-along : (xs ys : List X) → IsPermutation xs ys → IsPermutation (f xs) (f ys)
  IsPermutation-along xs = IsPermutation-keeps xs (λ l. IsPermutation (f xs) (f l)) (IsPermutation-refl (f xs)) (λ l i j p q h. chain xs l _ h (swapped l i j p q))

-- what is made of the elements, where two are exchanged
pub map-swap : {X Y : Type 0} (f : X → Y) (xs : List X) (i j : ℕ) → i < length xs → j < length xs → map f (swap xs i j) ≡ swap (map f xs) i j
map-swap f [] i j p q = refl
map-swap f (x ∷ xs) i j p q =
    let l = x ∷ xs in
    let at : (k : ℕ) → k < length l → f (get_or l k x) ≡ get_or (map f l) k (f x) = λ k h. sym (get_or-map f l k x (f x) h) in
    map-set f (set l i (get_or l j x)) j (get_or l i x) ∙ ap (λ m. set m j (f (get_or l i x))) (map-set f l i (get_or l j x))
    ∙ ap₂ (λ y z. set (set (map f l) i y) j z) (at j q) (at i p)

-- what all have, all have where two are exchanged
pub All-swap : {X : Type 0} (P : X → Type 0) (xs : List X) (i j : ℕ) → i < length xs → j < length xs → All P xs → All P (swap xs i j)
All-swap P [] i j p q all = all
All-swap P (x ∷ xs) i j p q all =
    let l = x ∷ xs in
    All-set P (set l i (get_or l j x)) j (get_or l i x) (all i x p) (All-set P l i (get_or l j x) (all j x q) all)

module _ {R F : Type 0} {cmp : F → F → Ordering} (o : IsExactOrder cmp) (at : R → ℤ → F) where
  -- a relation in another order has the same rows at a day
  pub relation_at-permutation : (a b : List (R × List Range)) (d : ℤ) → IsPermutation a b → relation_at cmp at a d ≡ relation_at cmp at b d
  relation_at-permutation a b d moved =
      set_of-permutation o (present at a d) (present at b d) (IsPermutation-along (λ rel. present at rel d) (λ x y. present-append at x y d) a b moved)
