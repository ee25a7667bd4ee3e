-- Lists of which the last elements come to places, in the order of these, where those go that stood there.
use Rattle.std.proofs.Common.{◌≡◌, ◌++◌, ◌+◌, ◌<◌, ◌≤◌, ℕ, suc, List, [], ◌∷◌, length, get_or, set, swap, take, drop, refl, sym, ap, ap₂, subst, append-nil, ◌∙◌, arith}
use lib.Seq.{drop-set-lt, take-set-le, take-set-lt}
use Rattle.std.specs.List.Sorted.{IsPermutation}
use Rattle.std.proofs.lemmas.Bool.{eq-eqb}
use Rattle.std.proofs.lemmas.List.{drop-set, drop_all, length-take-le, take-append-drop, take-set}
use Rattle.std.proofs.lemmas.List.Edits.{length-swap}
use Rattle.std.proofs.lemmas.List.Sorted.{IsPermutation-append_left, IsPermutation-middle, IsPermutation-refl, IsPermutation-sym, IsPermutation-trans}
use Rattle.og_rel.specs.Places.{ArePlaces, others_at, others_from}
use Rattle.og_rel.proofs.PlaceLemmas.{drop-at, nothing_and, others-append, others-front, others-kept, others-out, rising-lower}

module _ {X : Type 0} where
  -- where an element is put at a place, it is one of those that are left at none of the later places
  put-others : (k : ℕ) (at : List ℕ) (xs : List X) (y : X) → ArePlaces (k ∷ at) (length xs) → IsPermutation (others_at at (set xs k y)) (y ∷ others_at (k ∷ at) xs)
  put-others k at xs y are =
      subst (λ l. IsPermutation l (y ∷ others_at (k ∷ at) xs)) (sym with_it)
      (subst (λ l. IsPermutation (take k xs ++ y ∷ rest) (y ∷ l)) (sym without) (IsPermutation-middle (take k xs) y rest))
    where
      end : ℕ
      end = length xs

      rest : List X
      rest = others_from (suc k) at (drop (suc k) xs)

      next : k + 1 ≡ suc k
      next = omega arith

      with_it : others_at at (set xs k y) ≡ take k xs ++ y ∷ rest
      with_it =
          others-front k 0 at end (set xs k y) (rising-lower (0 + k) (suc k) at end (omega arith) are.2)
          ∙ ap (λ j. take k (set xs k y) ++ others_from j at (drop k (set xs k y))) (nothing_and k)
          ∙ ap₂ (λ a b. a ++ others_from k at b) (take-set xs k y) (drop-set xs k y are.1 ∙ ap (λ n. y ∷ drop n xs) next)
          ∙ ap (λ l. take k xs ++ l) (others-kept k at end y (drop (suc k) xs) are.2)

      without : others_at (k ∷ at) xs ≡ take k xs ++ rest
      without =
          others-front k 0 (k ∷ at) end xs (omega arith, are.1, are.2)
          ∙ ap (λ j. take k xs ++ others_from j (k ∷ at) (drop k xs)) (nothing_and k)
          ∙ ap (λ l. take k xs ++ others_from k (k ∷ at) l) (drop-at xs k y are.1)
          ∙ ap (λ l. take k xs ++ l) (others-out k k at (get_or xs k y) (drop (suc k) xs) (eq-eqb k k refl))

module _ {X : Type 0} (at : List ℕ) (old : List X) (from : ℕ) where
  -- that many of the elements from one on have come to the first of the places
  pub record HaveCome (k : ℕ) (now : List X) : Type 0 where
    pub long : length now ≡ length old
    pub places : ArePlaces (drop k at) from
    pub left : IsPermutation (others_at (drop k at) (take from now) ++ drop (from + k) now) (others_at at old)

  pub none_came : ArePlaces at from → from ≤ length old → HaveCome 0 old
  none_came are within = record {
    long = refl;
    places = are;
    left =
        let all : others_at at (take from old) ++ drop from old ≡ others_at at old =
        sym (others-append at (take from old) (drop from old) (subst (ArePlaces at) (sym (length-take-le from old within)) are)) ∙ ap (others_at at) (take-append-drop from old) in
        subst (λ n. IsPermutation (others_at at (take from old) ++ drop n old) (others_at at old)) (omega arith)
        (subst (λ l. IsPermutation l (others_at at old)) (sym all) (IsPermutation-refl (others_at at old)));
  }

  -- the next one comes
  pub next_came : (k : ℕ) (now : List X) (d : X) → k < length at → from + k < length now → HaveCome k now → HaveCome (k + 1) (swap now (get_or at k 0) (from + k))
  next_came k [] d there within come = absurd (omega (arith, within))
  next_came k (x ∷ xs) d there within come = let more : suc k ≡ k + 1 = omega arith in subst (λ n. HaveCome n (swap (x ∷ xs) (get_or at k 0) (from + k))) more (record {
    long = length-swap now a b ∙ come.long;
    places = rising-lower 0 (suc a) rest from (omega arith) are.2;
    left =
        subst (λ l. IsPermutation (l ++ drop (from + suc k) (swap now a b)) (others_at at old)) (ap (others_at rest) (sym front))
        (subst (λ l. IsPermutation (others_at rest (set (take from now) a y) ++ l) (others_at at old)) (sym back) (IsPermutation-trans _ _ _ moved (subst (λ l. IsPermutation l (others_at at old)) before come.left)));
  })
    where
      now : List X
      now = x ∷ xs

      a : ℕ
      a = get_or at k 0

      b : ℕ
      b = from + k

      rest : List ℕ
      rest = drop (suc k) at

      y : X
      y = get_or now b x

      first : drop k at ≡ a ∷ rest
      first = drop-at at k 0 there

      are : ArePlaces (a ∷ rest) from
      are = subst (λ l. ArePlaces l from) first come.places

      front : take from (swap now a b) ≡ set (take from now) a y
      front = take-set-le from (set now a y) b (get_or now a x) (omega arith) ∙ take-set-lt from now a y are.1

      next : from + suc k ≡ suc b
      next = omega arith

      back : drop (from + suc k) (swap now a b) ≡ drop (suc b) now
      back = ap (λ n. drop n (swap now a b)) next ∙ drop-set-lt (suc b) (set now a y) b (get_or now a x) (omega arith) ∙ drop-set-lt (suc b) now a y (omega (arith, are.1))

      long : length (take from now) ≡ from
      long = length-take-le from now (omega (arith, within))

      others : List X
      others = others_at (a ∷ rest) (take from now)

      before : others_at (drop k at) (take from now) ++ drop b now ≡ others ++ y ∷ drop (suc b) now
      before = ap₂ (λ l m. others_at l (take from now) ++ m) first (drop-at now b x within)

      moved : IsPermutation (others_at rest (set (take from now) a y) ++ drop (suc b) now) (others ++ y ∷ drop (suc b) now)
      moved = IsPermutation-trans _ _ _
          (IsPermutation-append_left (drop (suc b) now) (others_at rest (set (take from now) a y)) (y ∷ others) (put-others a rest (take from now) y (subst (ArePlaces (a ∷ rest)) (sym long) are)))
          (IsPermutation-sym (others ++ y ∷ drop (suc b) now) (y ∷ (others ++ drop (suc b) now)) (IsPermutation-middle others y (drop (suc b) now)))

  -- all have come
  pub all_came : (k : ℕ) (now : List X) → length now ≤ from + k → HaveCome k now → IsPermutation (others_at (drop k at) (take from now)) (others_at at old)
  all_came k now end come =
      subst (λ l. IsPermutation l (others_at at old)) (ap (λ l. others_at (drop k at) (take from now) ++ l) (drop_all (from + k) now end) ∙ append-nil (others_at (drop k at) (take from now))) come.left
