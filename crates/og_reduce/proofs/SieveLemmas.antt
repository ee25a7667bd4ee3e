-- Rows that pass tests: that no day changes it, what some keys more make of it, and what bounds of keys tell.
use Rattle.std.proofs.Common.{◌≡◌, ◌++◌, ◌+◌, ◌&&◌, Contains, ℕ, ℤ, zero, suc, pos, Bool, true, false, true≢false, not, List, [], ◌∷◌, length, slice_get, slice_index_or, take, ◌<◌, Option, Some, None, Ordering, Less, Equal, Greater, ◌||◌, refl, sym, ap, ap₂, ◌∙◌, arith}
use Rattle.std.specs.List.{All, list_all, list_any}
use Rattle.std.proofs.lemmas.List.{length-take-le, take_more}
use Rattle.std.proofs.lemmas.List.Elements.{All-cons, All-contains, All-nil, filter-append}
use Rattle.std.specs.BTreeSet.{insert_key}
use Rattle.std.specs.Ordering.{eq_by_cmp, int_cmp, match_ordering, nat_cmp}
use Rattle.std.specs.Cmp.Lexicographic.{slice_cmp}
use Rattle.std.proofs.lemmas.List.Folds.{list_all-append}
use Rattle.std.proofs.lemmas.Bool.{and_parts}
use Rattle.std.proofs.lemmas.Option.{same_Some}
use Rattle.std.specs.Option.{SomeIff}
use Rattle.og_value.specs.Values.{row_at, value_at}
use Rattle.og_value.specs.declared.value.FixedValue.{FixedValue}
use Rattle.og_value.specs.declared.value.FixedValue.TheVariants as f
use Rattle.og_value.specs.declared.value.Value.{Value}
use Rattle.og_value.specs.declared.value.Value.TheVariants.{Int, Text, Point, Period}
use Rattle.og_rel.specs.Relations.{instead, others}
use Rattle.og_rel.proofs.AlgebraLemmas.{filter-both}
use Rattle.og_query.specs.Expressions.{no_value}
use Rattle.og_query.specs.Queries.{Fixed}
use Rattle.og_reduce.specs.Numbers.{AreBetween}
use Rattle.og_value.specs.Heads.{number_at, number_in}
use Rattle.og_reduce.specs.RangeTests.{is_within}
use Rattle.og_reduce.specs.Sieves.{Keys, Relation, Test, column, is_among, meets, passes, row_meets, row_passes, sifted, tests_from}
use Rattle.og_reduce.proofs.NumberLemmas.{not_between}
use Rattle.og_rel.proofs.PlaceLemmas.{and_nothing, nothing_and, one_across}

-- what is among keys on one day is on another
among-on_day : (keys : Keys) (d e : ℤ) (v : Value) → is_among keys (value_at v d) ≡ is_among keys (value_at v e)
among-on_day keys d e (Int n) = refl
among-on_day keys d e (Text t) = refl
among-on_day keys d e (Point p) = refl
among-on_day keys d e (Period p) = refl

-- and so is what stands in a column
column-on_day : (keys : Keys) (d e : ℤ) (row : List Value) (place : ℕ) → is_among keys (column (row_at row d) place) ≡ is_among keys (column (row_at row e) place)
column-on_day keys d e [] place = refl
column-on_day keys d e (v ∷ row) zero = among-on_day keys d e v
column-on_day keys d e (v ∷ row) (suc place) = column-on_day keys d e row place

-- beyond a row there stands no value
pub column-beyond : (row : List Value) (place : ℕ) (d : ℤ) → slice_get row place ≡ None → column (row_at row d) place ≡ no_value
column-beyond [] place d none = refl
column-beyond (v ∷ row) zero d none = cc none
column-beyond (v ∷ row) (suc place) d none = column-beyond row place d none

-- and in it what its value is on the day
pub column-within : (row : List Value) (place : ℕ) (d : ℤ) (v : Value) → slice_get row place ≡ Some v → column (row_at row d) place ≡ value_at v d
column-within [] place d v is = cc is
column-within (one ∷ row) zero d v is = ap (λ v. value_at v d) (same_Some one v is)
column-within (one ∷ row) (suc place) d v is = column-within row place d v is

-- a row passes on each day where it does on one
pub passes-on_day : (tests : List Test) (row : List Value) (d : ℤ) → passes tests (row_at row d) ≡ row_passes tests row
passes-on_day tests row d = λ i. list_all (λ test. column-on_day test.1 d (pos 0) row test.0 i) tests

-- rows that pass tests, where others stand in the place of some, are those of either that pass
pub sifted-instead : (tests : List Test) (gives : List Value → Bool) (own more : Relation) → instead gives (sifted tests more) (sifted tests own) ≡ sifted tests (instead gives more own)
sifted-instead tests gives own more =
    ap (λ rows. rows ++ sifted tests more)
    (sym (filter-both (λ p. row_passes tests p.0 && not (gives p.0)) (λ p. row_passes tests p.0) (λ p. not (gives p.0)) (λ p. refl) own)
    ∙ filter-both (λ p. row_passes tests p.0 && not (gives p.0)) (λ p. not (gives p.0)) (λ p. row_passes tests p.0) (λ p. and_across (row_passes tests p.0) (not (gives p.0))) own)
    ∙ sym (filter-append (λ p. row_passes tests p.0) (others gives own) more)
  where
    and_across : (a b : Bool) → (a && b) ≡ (b && a)
    and_across true true = refl
    and_across true false = refl
    and_across false true = refl
    and_across false false = refl

-- without tests all rows pass
pub sifted-none : (rel : Relation) → sifted [] rel ≡ rel
sifted-none [] = refl
sifted-none (p ∷ rel) = ap (λ rest. p ∷ rest) (sifted-none rel)

-- the tests of one column more
pub tests_from-push : (place : ℕ) (columns : List Keys) (keys : Keys) → tests_from place (columns ++ keys ∷ []) ≡ tests_from place columns ++ (place + length columns, keys) ∷ []
tests_from-push place [] keys = ap (λ n. (n, keys) ∷ []) (and_nothing place)
tests_from-push place (one ∷ columns) keys =
    ap (λ rest. (place, one) ∷ rest) (tests_from-push (suc place) columns keys ∙ ap (λ n. tests_from (suc place) columns ++ (n, keys) ∷ []) (one_across place (length columns)))

-- the tests of the first columns, from a place on, and one more
pub tests_from-more : (start : ℕ) (columns : List Keys) (i : ℕ) (keys : Keys) → i < length columns → keys ≡ slice_index_or columns i keys
    → tests_from start (take (i + 1) columns) ≡ tests_from start (take i columns) ++ (start + i, keys) ∷ []
tests_from-more start columns i keys within is =
    ap (tests_from start) (take_more columns i keys within ∙ ap (λ one. take i columns ++ one ∷ []) (sym is))
    ∙ tests_from-push start (take i columns) keys
    ∙ ap (λ n. tests_from start (take i columns) ++ (start + n, keys) ∷ []) (length-take-le i columns (omega (arith, within)))

-- a row passes tests and one more where it passes those and meets that
pub passes-push : (tests : List Test) (one : Test) (row : Fixed) → passes (tests ++ one ∷ []) row ≡ (passes tests row && (meets row one && true))
passes-push tests one row = list_all-append (meets row) tests (one ∷ [])

-- a test of a column whose place is told as a sum is one of that place
pub meets-sum : (o : Option ℕ) (within : Type 0) (n place : ℕ) (keys : Keys) (row : Fixed) → SomeIff o within n → o ≡ Some place → meets row (n, keys) ≡ true → meets row (place, keys) ≡ true
meets-sum None within n place keys row there is met = cc is
meets-sum (Some m) within n place keys row there is met = ap (λ k. meets row (k, keys)) (sym (same_Some m place is) ∙ there.1) ∙ met

-- so with one test of more columns
pub passes-more : (start : ℕ) (columns : List Keys) (i : ℕ) (keys : Keys) (row : Fixed) → i < length columns → keys ≡ slice_index_or columns i keys
    → passes (tests_from start (take (i + 1) columns)) row ≡ true → (passes (tests_from start (take i columns)) row ≡ true) × (meets row (start + i, keys) ≡ true)
passes-more start columns i keys row within is passing =
    let both =
    and_parts (passes (tests_from start (take i columns)) row) (meets row (start + i, keys) && true)
    (sym (ap (λ tests. passes tests row) (tests_from-more start columns i keys within is) ∙ passes-push (tests_from start (take i columns)) (start + i, keys) row) ∙ passing) in
    (both.0, (and_parts (meets row (start + i, keys)) true both.1).0)

-- what passes tests passes one of them
pub passes-one : (tests : List Test) (row : Fixed) (test : Test) → Contains tests test → passes tests row ≡ true → meets row test ≡ true
passes-one tests row test c all = All-contains (λ test. meets row test ≡ true) tests test (met tests all) c
  where
    met : (tests : List Test) → list_all (meets row) tests ≡ true → All (λ test. meets row test ≡ true) tests
    met [] e = All-nil (λ test. meets row test ≡ true)
    met (test ∷ tests) e =
        let each = and_parts (meets row test) (list_all (meets row) tests) e in All-cons (λ test. meets row test ≡ true) test tests each.0 (met tests each.1)

-- a truth or one that is true
or_true : (b : Bool) → (b || true) ≡ true
or_true true = refl
or_true false = refl

-- a test of some key holds too where there is one key more
insert_keeps : {K : Type 0} (cmp : K → K → Ordering) (p : K → Bool) (keys : List K) (key : K) → list_any p keys ≡ true → list_any p (insert_key cmp keys key) ≡ true
insert_keeps cmp p [] key e = cc e
insert_keeps cmp p (one ∷ keys) key e = at (cmp key one) (insert_keeps cmp p keys key)
  where
    more : (b : Bool) → (list_any p keys ≡ true → list_any p (insert_key cmp keys key) ≡ true) → (b || list_any p keys) ≡ true → (b || list_any p (insert_key cmp keys key)) ≡ true
    more true rest any = refl
    more false rest any = rest any

    at : (o : Ordering) → (list_any p keys ≡ true → list_any p (insert_key cmp keys key) ≡ true)
        → list_any p (match_ordering o (key ∷ one ∷ keys) (one ∷ keys) (one ∷ insert_key cmp keys key)) ≡ true
    at Less rest = ap (λ b. p key || b) e ∙ or_true (p key)
    at Equal rest = e
    at Greater rest = more (p one) rest e

-- what is among keys is so too where there is one number more
pub number_keeps : (numbers : List ℤ) (texts : List (List ℕ)) (n : ℤ) (v : FixedValue) → is_among (numbers, texts) v ≡ true → is_among (insert_key int_cmp numbers n, texts) v ≡ true
number_keeps numbers texts n (f.Int m) e = insert_keeps int_cmp (eq_by_cmp int_cmp m) numbers n e
number_keeps numbers texts n (f.Text t) e = e
number_keeps numbers texts n (f.Date a) e = e
number_keeps numbers texts n (f.Period p) e = e

-- or one text
pub text_keeps : (numbers : List ℤ) (texts : List (List ℕ)) (t : List ℕ) (v : FixedValue) → is_among (numbers, texts) v ≡ true → is_among (numbers, insert_key (slice_cmp nat_cmp) texts t) v ≡ true
text_keeps numbers texts t (f.Int m) e = e
text_keeps numbers texts t (f.Text s) e = insert_keeps (slice_cmp nat_cmp) (eq_by_cmp (slice_cmp nat_cmp) s) texts t e
text_keeps numbers texts t (f.Date a) e = e
text_keeps numbers texts t (f.Period p) e = e

-- a row passes with one column more, where it meets the test of that
pub row_passes-push : (columns : List Keys) (keys : Keys) (row : List Value) → row_passes (tests_from 0 columns) row ≡ true → row_meets row (length columns, keys) ≡ true
    → row_passes (tests_from 0 (columns ++ keys ∷ [])) row ≡ true
row_passes-push columns keys row all one =
    ap (list_all (row_meets row)) (tests_from-push 0 columns keys ∙ ap (λ n. tests_from 0 columns ++ (n, keys) ∷ []) (nothing_and (length columns)))
    ∙ list_all-append (row_meets row) (tests_from 0 columns) ((length columns, keys) ∷ [])
    ∙ ap₂ (λ a b. a && (b && true)) all one

-- a row of which what stands in a column is no number between bounds of keys does not meet the test of the column
pub range_tells : (keys : Keys) (least greatest : ℤ) (place : ℕ) (row : List Value) → AreBetween least greatest keys.0
    → is_within least greatest (number_at row place) ≡ false → row_meets row (place, keys) ≡ false
range_tells keys least greatest place row all out = at (slice_get row place) refl out
  where
    at : (o : Option Value) → slice_get row place ≡ o → is_within least greatest (number_in o) ≡ false → row_meets row (place, keys) ≡ false
    at (Some (Int n)) is none = ap (is_among keys) (column-within row place (pos 0) (Int n) is) ∙ not_between least greatest n keys.0 all none
    at (Some (Text t)) is none = absurd (true≢false none)
    at (Some (Point p)) is none = absurd (true≢false none)
    at (Some (Period p)) is none = absurd (true≢false none)
    at None is none = absurd (true≢false none)
