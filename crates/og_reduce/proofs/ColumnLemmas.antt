-- The numbers that rows have in a column: of rows one after the other, of the first ones, of two that are exchanged, and of those at none of some places.
use Rattle.std.proofs.Common.{◌≡◌, ◌++◌, ◌+◌, ◌<◌, ◌≤◌, ℕ, ℤ, inl, inr, Option, Some, List, [], ◌∷◌, length, get_or, set, swap, take, map, refl, sym, ap, ap₂, subst, ◌∙◌, arith}
use Rattle.std.specs.List.{All}
use Rattle.std.proofs.lemmas.Bool.{cases_lt}
use Rattle.std.proofs.lemmas.List.{get_or-map, get_or-set_other, get_or-set_same, length-map, length-set, map-append, take-map}
use Rattle.og_base.specs.Ranges.{Range}
use Rattle.og_value.specs.Heads.{number_at}
use Rattle.og_value.specs.declared.value.Value.{Value}
use Rattle.og_rel.specs.Places.{others_at}
use Rattle.og_rel.specs.declared.pair.Pair.{Pair}
use Rattle.og_rel.proofs.PermutationLemmas.{map-swap}
use Rattle.og_rel.proofs.PlaceLemmas.{map-others}
use Rattle.og_reduce.specs.Columns.{AreNumbers, IsBeside}
use Rattle.og_reduce.specs.Sieves.{Relation}
use Rattle.og_reduce.specs.declared.columns.Column.{Column}

-- what a row has in a column
abbrev column : ℕ → List Value × List Range → Option ℤ
column place p = number_at p.0 place

-- the rows of pairs have what the pairs' rows have
numbers-pairs : (place : ℕ) (pairs : List (Pair (List Value))) → map (column place) (map (λ p. (p.row, p.days)) pairs) ≡ map (λ p. number_at p.row place) pairs
numbers-pairs place [] = refl
numbers-pairs place (p ∷ pairs) = ap (λ l. number_at p.row place ∷ l) (numbers-pairs place pairs)

-- of more rows behind others
pub AreNumbers-more : (place : ℕ) (before : Relation) (pairs : List (Pair (List Value))) (numbers all : List ℤ)
    → map Some all ≡ map Some numbers ++ map (λ p. number_at p.row place) pairs → AreNumbers place numbers before → AreNumbers place all (before ++ map (λ p. (p.row, p.days)) pairs)
AreNumbers-more place before pairs numbers all e are =
    map-append (column place) before (map (λ p. (p.row, p.days)) pairs) ∙ ap₂ (λ a b. a ++ b) are (numbers-pairs place pairs) ∙ sym e

-- of the first ones
pub AreNumbers-take : (place : ℕ) (numbers : List ℤ) (rel : Relation) (n : ℕ) → AreNumbers place numbers rel → AreNumbers place (take n numbers) (take n rel)
AreNumbers-take place numbers rel n are = sym (take-map (column place) n rel) ∙ ap (take n) are ∙ take-map Some n numbers

-- there are as many
pub length-numbers : (place : ℕ) (numbers : List ℤ) (rel : Relation) → AreNumbers place numbers rel → length numbers ≡ length rel
length-numbers place numbers rel are =
    let some : ℤ → Option ℤ = Some in
    sym (length-map numbers some) ∙ ap length (sym are) ∙ length-map rel (column place)

-- each stands where its row does
pub number-at : (place : ℕ) (numbers : List ℤ) (rel : Relation) (i : ℕ) (n : ℤ) (p : List Value × List Range) → i < length rel → AreNumbers place numbers rel
    → number_at (get_or rel i p).0 place ≡ Some (get_or numbers i n)
number-at place numbers rel i n p there are =
    let some : ℤ → Option ℤ = Some in
    let long = length-numbers place numbers rel are in
    sym (get_or-map (column place) rel i p (some n) there) ∙ ap (λ l. get_or l i (some n)) are ∙ get_or-map some numbers i n (some n) (omega (arith, there, long))

-- where two are exchanged, and their numbers
pub AreNumbers-swap : (place : ℕ) (numbers : List ℤ) (rel : Relation) (i j : ℕ) → i < length numbers → j < length numbers → AreNumbers place numbers rel
    → AreNumbers place (swap numbers i j) (swap rel i j)
AreNumbers-swap place numbers rel i j p q are =
    let some : ℤ → Option ℤ = Some in
    let long = length-numbers place numbers rel are in
    map-swap (column place) rel i j (omega (arith, p, long)) (omega (arith, q, long)) ∙ ap (λ l. swap l i j) are ∙ sym (map-swap some numbers i j p q)

-- where those at places go
pub AreNumbers-others : (place : ℕ) (numbers : List ℤ) (rel : Relation) (at : List ℕ) → AreNumbers place numbers rel → AreNumbers place (others_at at numbers) (others_at at rel)
AreNumbers-others place numbers rel at are =
    let some : ℤ → Option ℤ = Some in
    map-others (column place) at rel ∙ ap (others_at at) are ∙ sym (map-others some at numbers)

-- the columns before a place are beside what an edit makes of the relation, and the others are as they were
pub record AreEdited (edited : Relation → Relation) (i : ℕ) (old now : List Column) : Type 0 where
  pub long : length now ≡ length old
  pub done : (rel : Relation) → All (IsBeside rel) old → (k : ℕ) (c : Column) → k < i → IsBeside (edited rel) (get_or now k c)
  pub left : (k : ℕ) (c : Column) → i ≤ k → get_or now k c ≡ get_or old k c

module _ (edited : Relation → Relation) (old : List Column) where
  pub edited-none : AreEdited edited 0 old old
  edited-none = record { long = refl; done = λ rel all k c none. absurd (omega (arith, none)); left = λ k c least. refl }

  -- one column more
  pub edited-more : (i : ℕ) (now : List Column) (c new : Column) → i < length now → ((rel : Relation) → IsBeside rel (get_or now i c) → IsBeside (edited rel) new)
      → AreEdited edited i old now → AreEdited edited (i + 1) old (set now i new)
  edited-more i now c new within one are = record {
    long = length-set now i new ∙ are.long;
    done = λ rel all k d before. elim (cases_lt k i) [
      | inl earlier ↦ subst (IsBeside (edited rel)) (sym (get_or-set_other now i k new d (λ is. omega (arith, is, earlier)))) (are.done rel all k d earlier)
      | inr least ↦
          subst (λ j. IsBeside (edited rel) (get_or (set now i new) j d)) (omega (arith, before, least))
          (subst (IsBeside (edited rel)) (sym (get_or-set_same now i new d within))
          (one rel (subst (IsBeside rel) (sym (are.left i c (omega arith))) (all i c (omega (arith, within, are.long))))))
    ];
    left = λ k d least. get_or-set_other now i k new d (λ is. omega (arith, is, least)) ∙ are.left k d (omega (arith, least));
  }

  -- all of them
  pub edited-all : (i : ℕ) (now : List Column) → length now ≤ i → AreEdited edited i old now → (rel : Relation) → All (IsBeside rel) old → All (IsBeside (edited rel)) now
  edited-all i now end are rel all k c there = are.done rel all k c (omega (arith, there, end))
