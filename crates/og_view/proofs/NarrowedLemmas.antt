-- Combinations of lists of which one is narrowed by a test of a column: those whose column passes the test.
use Rattle.std.proofs.Common.{◌≡◌, ◌≤◌, ◌++◌, ◌+◌, ◌-◌, ◌<◌, ◌&&◌, ℕ, zero, suc, Bool, true, false, List, [], ◌∷◌, length, filter, if◌then◌else◌, slice_index_or, take, refl, sym, ap, ◌∙◌, arith}
use Rattle.std.specs.Bool.{⊤}
use Rattle.std.specs.List.{All, list_any}
use Rattle.std.proofs.lemmas.Bool.{and_parts}
use Rattle.std.proofs.lemmas.List.Elements.{All-head, All-tail, All-weaker}
use Rattle.og_base.proofs.SetMembers.{list_any-filter}
use Rattle.og_value.specs.declared.value.FixedValue.{FixedValue}
use Rattle.og_join.proofs.PlaceTests.{list_any-and, list_any-known}
use Rattle.og_query.specs.Combinations.{combinations}
use Rattle.og_query.specs.Expressions.{no_value}
use Rattle.og_query.specs.Queries.{Fixed}
use Rattle.og_query.proofs.ProductLemmas.{list_any-combinations}
use Rattle.og_plan.proofs.MeaningHomes.{columns}
use Rattle.og_plan.proofs.MeaningPlaces.{at_first, at_second}
use Rattle.og_reduce.specs.Sieves.{Keys, is_among, meets, tests_from}
use Rattle.og_reduce.specs.Sieves as sieves

-- each row of a list has so many columns, list by list
abbrev pub HaveWidths : List ℕ → List (List Fixed) → Type 0
HaveWidths [] [] = ⊤
HaveWidths (width ∷ widths) (rows ∷ lists) = All (λ row. length row ≡ width) rows × HaveWidths widths lists
HaveWidths _ _ = ⊥

-- a number less what it was more
less_more : (m n : ℕ) → (m + n) - m ≡ n
less_more m n = omega arith

-- a number and nothing before it
nothing_more : (n : ℕ) → n ≡ 0 + n
nothing_more n = omega arith

-- of two rows together, a place behind the first is one of the second
behind : (row rest : Fixed) (width n : ℕ) → length row ≡ width → slice_index_or (row ++ rest) (width + n) no_value ≡ slice_index_or rest n no_value
behind row rest width n is =
    sym (at_second row rest (width + n) no_value (omega (arith, is)))
    ∙ ap (λ k. slice_index_or rest (width + n - k) no_value) is
    ∙ ap (λ k. slice_index_or rest k no_value) (less_more width n)

module _ (test : FixedValue → Bool) (place : ℕ) (back : List (List Fixed)) (rows : List Fixed) (within : All (λ row. place < length row) rows) where
  -- the value in the place passes
  abbrev passes : Fixed → Bool
  passes row = test (slice_index_or row place no_value)

  -- of some combination with a narrowed list: of some combination whose column passes
  pub any_narrowed : (t : Fixed → Bool) (widths : List ℕ) (front : List (List Fixed)) → HaveWidths widths front
      → list_any t (combinations (front ++ filter passes rows ∷ back))
      ≡ list_any (λ row. test (slice_index_or row (columns widths + place) no_value) && t row) (combinations (front ++ rows ∷ back))
  any_narrowed t [] [] wide =
      list_any-combinations t (filter passes rows) back
      ∙ list_any-filter (λ row. list_any (λ rest. t (row ++ rest)) (combinations back)) passes rows
      ∙ list_any-known (λ row. place < length row) _ _
      (λ row l. list_any-and (passes row) (λ rest. t (row ++ rest)) (combinations back)
      ∙ (λ i. list_any (λ rest. test (at_first row rest place no_value l i) && t (row ++ rest)) (combinations back)))
      rows within
      ∙ sym (list_any-combinations (λ row. test (slice_index_or row place no_value) && t row) rows back)
      ∙ ap (λ k. list_any (λ row. test (slice_index_or row k no_value) && t row) (combinations (rows ∷ back))) (nothing_more place)
  any_narrowed t [] (other ∷ front) wide = absurd wide
  any_narrowed t (width ∷ widths) [] wide = absurd wide
  any_narrowed t (width ∷ widths) (other ∷ front) wide =
      list_any-combinations t other (front ++ filter passes rows ∷ back)
      ∙ (λ i. list_any (λ row. any_narrowed (λ rest. t (row ++ rest)) widths front wide.1 i) other)
      ∙ list_any-known (λ row. length row ≡ width) _ _
      (λ row is. (λ i. list_any (λ rest. test (moved row rest is i) && t (row ++ rest)) (combinations (front ++ rows ∷ back))))
      other wide.0
      ∙ sym (list_any-combinations (λ row. test (slice_index_or row (columns (width ∷ widths) + place) no_value) && t row) other (front ++ rows ∷ back))
    where
      assoc : (k m n : ℕ) → k + (m + n) ≡ k + m + n
      assoc k m n = omega arith

      moved : (row rest : Fixed) → length row ≡ width → slice_index_or rest (columns widths + place) no_value ≡ slice_index_or (row ++ rest) (width + columns widths + place) no_value
      moved row rest is = sym (behind row rest width (columns widths + place) is) ∙ ap (λ k. slice_index_or (row ++ rest) k no_value) (assoc width (columns widths) place)

-- a list of which each passes is kept whole
pub filter_every : {X : Type 0} (p : X → Bool) (xs : List X) → All (λ x. p x ≡ true) xs → filter p xs ≡ xs
filter_every p [] all = refl
filter_every p (x ∷ xs) all =
    ap (λ b. if b then x ∷ filter p xs else filter p xs) (All-head (λ y. p y ≡ true) x xs all) ∙ ap (λ ys. x ∷ ys) (filter_every p xs (All-tail (λ y. p y ≡ true) x xs all))

-- three truths, of which two come together
two_and : (p a u : Bool) → (p && (a && u)) ≡ ((a && p) && u)
two_and true true u = refl
two_and true false u = refl
two_and false true u = refl
two_and false false u = refl

module _ (widths : List ℕ) (front : List (List Fixed)) (wide : HaveWidths widths front) (rows : List Fixed) (back : List (List Fixed)) where
  -- tests that all rows of a list pass, all combinations pass, each with its place in these
  pub any_passing : (keys : List Keys) (place : ℕ) → All (λ row. place + length keys ≤ length row) rows → All (λ row. sieves.passes (tests_from place keys) row ≡ true) rows → (t : Fixed → Bool)
      → list_any t (combinations (front ++ rows ∷ back)) ≡ list_any (λ row. sieves.passes (tests_from (columns widths + place) keys) row && t row) (combinations (front ++ rows ∷ back))
  any_passing [] place long all t = refl
  any_passing (one ∷ keys) place long all t =
      ap (λ rows. list_any t (combinations (front ++ rows ∷ back)))
      (sym (filter_every (λ row. meets row (place, one)) rows
      (All-weaker (λ row. sieves.passes (tests_from place (one ∷ keys)) row ≡ true) (λ row. meets row (place, one) ≡ true)
      (λ row e. (and_parts (meets row (place, one)) (sieves.passes (tests_from (suc place) keys) row) e).0) rows all)))
      ∙ any_narrowed (is_among one) place back rows
      (All-weaker (λ row. place + suc (length keys) ≤ length row) (λ row. place < length row) (λ row l. omega (arith, l)) rows long) t widths front wide
      ∙ any_passing keys (suc place)
      (All-weaker (λ row. place + suc (length keys) ≤ length row) (λ row. suc place + length keys ≤ length row) (λ row l. omega (arith, l)) rows long)
      (All-weaker (λ row. sieves.passes (tests_from place (one ∷ keys)) row ≡ true) (λ row. sieves.passes (tests_from (suc place) keys) row ≡ true)
      (λ row e. (and_parts (meets row (place, one)) (sieves.passes (tests_from (suc place) keys) row) e).1) rows all)
      (λ row. meets row (columns widths + place, one) && t row)
      ∙ (λ i. list_any (λ row. sieves.passes (tests_from (one_more (columns widths) place i) keys) row && (meets row (columns widths + place, one) && t row)) (combinations (front ++ rows ∷ back)))
      ∙ (λ i. list_any (λ row. two_and (sieves.passes (tests_from (suc (columns widths + place)) keys) row) (meets row (columns widths + place, one)) (t row) i) (combinations (front ++ rows ∷ back)))
    where
      one_more : (m n : ℕ) → m + suc n ≡ suc (m + n)
      one_more m n = omega arith

-- lists, of which one stands at a place
pub parted_at : (widths : List ℕ) (lists : List (List Fixed)) (place : ℕ) → HaveWidths widths lists → place < length widths
    → (front : List (List Fixed)) × (back : List (List Fixed)) × (lists ≡ front ++ slice_index_or lists place [] ∷ back) × HaveWidths (take place widths) front
    × All (λ row. length row ≡ slice_index_or widths place 0) (slice_index_or lists place [])
parted_at [] lists place wide within = absurd (omega (arith, within))
parted_at (width ∷ widths) [] place wide within = absurd wide
parted_at (width ∷ widths) (rows ∷ lists) zero wide within = ([], lists, refl, tt, wide.0)
parted_at (width ∷ widths) (rows ∷ lists) (suc place) wide within =
    let rest = parted_at widths lists place wide.1 (omega (arith, within)) in
    (rows ∷ rest.0, rest.1, ap (λ more. rows ∷ more) rest.2, (wide.0, rest.3), rest.4)
