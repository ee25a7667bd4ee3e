-- Two rows, each on a day, compared value by value.
use Rattle.std.proofs.Common.{◌≡◌, ◌<◌, ◌+◌, ℕ, zero, suc, add-one, ℤ, true, false, not, List, [], ◌∷◌, Ordering, Less, Equal, Greater, length, min, drop, get_or, refl, sym, ap, ◌∙◌, arith, true≢false}
use Rattle.std.proofs.Math.Seq.{drop-cons}
use Rattle.std.specs.Bool.{◌==◌}
use Rattle.std.specs.Cmp.{ranks}
use Rattle.std.specs.Cmp.Lexicographic.{slice_cmp}
use Rattle.std.specs.Ordering.{MatchOrdering, nat_cmp, ordering_index, ordering_then}
use Rattle.og_value.specs.Order.{row_order, value_order}
use Rattle.og_value.specs.Values.{row_at, value_at}
use Rattle.og_value.specs.declared.value.Value.{Value}

-- the order of two values, each on a day
abbrev pub days_order : ℤ → ℤ → Value → Value → Ordering
days_order d e v w = value_order (value_at v d) (value_at w e)

-- values that are compared on their days are compared as those of the rows of the days
pub rows_compared : (d e : ℤ) (vs ws : List Value) → slice_cmp (days_order d e) vs ws ≡ row_order (row_at vs d) (row_at ws e)
rows_compared d e [] [] = refl
rows_compared d e [] (w ∷ ws) = refl
rows_compared d e (v ∷ vs) [] = refl
rows_compared d e (v ∷ vs) (w ∷ ws) = ap (ordering_then (days_order d e v w)) (rows_compared d e vs ws)

-- an answer that is not a tie decides
pub decides : (o rest : Ordering) → not (ordering_index o == 1) ≡ true → ordering_then o rest ≡ o
decides Less rest h = refl
decides Equal rest h = absurd (true≢false (sym h))
decides Greater rest h = refl

-- a tie leaves the answer to the rest
pub defers : (o rest : Ordering) → not (ordering_index o == 1) ≡ false → ordering_then o rest ≡ rest
defers Less rest h = absurd (true≢false h)
defers Equal rest h = refl
defers Greater rest h = absurd (true≢false h)

module _ {A : Type 0} (R : A → A → Ordering) where
  -- the lists from a place on, by what stands there and the lists from the next place on
  pub from_place : (xs ys : List A) (i : ℕ) (x y : A) → i < length xs → i < length ys → x ≡ get_or xs i x → y ≡ get_or ys i y
      → slice_cmp R (drop i xs) (drop i ys) ≡ ordering_then (R x y) (slice_cmp R (drop (i + 1) xs) (drop (i + 1) ys))
  from_place xs ys i x y f g p q =
      (λ j. slice_cmp R (drop-cons xs i x f j) (drop-cons ys i y g j))
      ∙ (λ j. ordering_then (R (sym p j) (sym q j)) (slice_cmp R (drop (sym (add-one i) j) xs) (drop (sym (add-one i) j) ys)))

  -- where the shorter list ends, the lengths decide
  by_lengths : (xs ys : List A) (n : ℕ) (r : Ordering) → n ≡ min (length xs) (length ys)
      → MatchOrdering r (length xs < length ys) (length xs ≡ length ys) (length ys < length xs) → slice_cmp R (drop n xs) (drop n ys) ≡ r
  by_lengths [] [] zero Less e h = let l : 0 < 0 = h in absurd (omega (arith, l))
  by_lengths [] [] zero Equal e h = refl
  by_lengths [] [] zero Greater e h = let l : 0 < 0 = h in absurd (omega (arith, l))
  by_lengths [] (y ∷ ys) zero Less e h = refl
  by_lengths [] (y ∷ ys) zero Equal e h = let l : 0 ≡ suc (length ys) = h in absurd (omega (arith, l))
  by_lengths [] (y ∷ ys) zero Greater e h = let l : suc (length ys) < 0 = h in absurd (omega (arith, l))
  by_lengths (x ∷ xs) [] zero Less e h = let l : suc (length xs) < 0 = h in absurd (omega (arith, l))
  by_lengths (x ∷ xs) [] zero Equal e h = let l : suc (length xs) ≡ 0 = h in absurd (omega (arith, l))
  by_lengths (x ∷ xs) [] zero Greater e h = refl
  by_lengths (x ∷ xs) (y ∷ ys) zero r e h = absurd (omega (arith, e))
  by_lengths [] ys (suc n) r e h = absurd (omega (arith, e))
  by_lengths (x ∷ xs) [] (suc n) r e h = absurd (omega (arith, e))
  by_lengths (x ∷ xs) (y ∷ ys) (suc n) r e h = by_lengths xs ys n r (omega (arith, e)) (shorter r h)
    where
      shorter : (o : Ordering) → MatchOrdering o (suc (length xs) < suc (length ys)) (suc (length xs) ≡ suc (length ys)) (suc (length ys) < suc (length xs))
          → MatchOrdering o (length xs < length ys) (length xs ≡ length ys) (length ys < length xs)
      shorter Less l = let k : suc (length xs) < suc (length ys) = l in omega (arith, k)
      shorter Equal l = let k : suc (length xs) ≡ suc (length ys) = l in omega (arith, k)
      shorter Greater l = let k : suc (length ys) < suc (length xs) = l in omega (arith, k)

  pub at_end : (xs ys : List A) (n : ℕ) → n ≡ min (length xs) (length ys) → slice_cmp R (drop n xs) (drop n ys) ≡ nat_cmp (length xs) (length ys)
  at_end xs ys n e = by_lengths xs ys n (nat_cmp (length xs) (length ys)) e (ranks (length xs) (length ys))
