-- Where the periods in two columns of a glued row overlap, so do the spans of its rows.
use Rattle.std.proofs.Common.{◌≡◌, true≢false, ◌++◌, ◌+◌, ◌-◌, ◌⊎◌, inl, inr, nat_lt, nat_le, if◌then◌else◌, ◌<◌, ◌≤◌, ◌≤ℤ◌, ◌&&◌, ℕ, ℤ, Bool, true, false, not, List, [], Option, Some, None, IfSome, length, slice_get, get_or, int_lt, refl, sym, ap, ap₂, subst, ◌∙◌, arith}
use Rattle.std.proofs.lemmas.Int.{ints}
use Rattle.std.specs.List.{All, list_all}
use Rattle.std.specs.Option.{option_map, unwrap_or}
use Rattle.std.proofs.lemmas.Bool.{and_parts}
use Rattle.std.proofs.lemmas.List.{get_or_append_left, get_or-append-add, get_or_past, length-map}
use Rattle.std.proofs.lemmas.List.Folds.{list_all_at}
use Rattle.std.proofs.lemmas.Option.{same_Some, slice_get-map, unwrap_or-slice_get}
use Rattle.og_base.specs.declared.range.FixedPeriod.{FixedPeriod}
use Rattle.og_join.specs.Joined.{DoOverlap, AreTold}
use Rattle.og_time.specs.FixedOperations.{least_of, greatest_of, is_empty_period, are_nonempty, overlaps_period}
use Rattle.og_time.specs.Period.{period_at}
use Rattle.og_time.specs.Point.{Point, point_at}
use Rattle.og_value.specs.Values.{value_at, row_at}
use Rattle.og_value.specs.declared.term.Pred.TheVariants as pred
use Rattle.og_value.specs.declared.value.FixedValue.{FixedValue}
use Rattle.og_value.specs.declared.value.FixedValue.TheVariants as f
use Rattle.og_value.specs.declared.value.Value.{Value}
use Rattle.og_value.specs.declared.value.Value.TheVariants as v
use Rattle.og_query.specs.Conditions.{relates, truth}
use Rattle.og_query.specs.Expressions.{no_value}
use Rattle.og_query.specs.Queries.{Fixed}
use Rattle.og_query.specs.declared.condition.Cond.{Cond}
use Rattle.og_query.specs.declared.condition.Cond.TheVariants as c
use Rattle.og_query.specs.declared.expression.Expr.TheVariants as e
use Rattle.og_query.proofs.Equations.{meaning-Column, truth-Relate}
use Rattle.og_plan.specs.Joins.{across}
use Rattle.og_plan.specs.Meaning.{all_hold, column, do_overlap, matches}
use Rattle.og_plan.specs.declared.plan.ColPair.{ColPair}
use Rattle.og_exec.specs.Spans.{span_of, span_at, span_in, do_overlap_and}
use Rattle.og_exec.specs.Tables.{Relation}
use Rattle.og_exec.proofs.MatchLemmas.{matches-same, matches-none}

-- a column of a row, in the row joined with another after it
pub column_of_left : (x y : Fixed) (n place : ℕ) → length x ≡ n → place < n → column (x ++ y) place ≡ column x place
column_of_left x y n place long within = get_or_append_left x y _ place (subst (λ m. place < m) (sym long) within)

-- a column of a row, in the row joined with another before it
pub column_of_right : (x y : Fixed) (n place : ℕ) → length x ≡ n → column (x ++ y) (n + place) ≡ column y place
column_of_right x y n place long = ap (λ m. column (x ++ y) (m + place)) (sym long) ∙ get_or-append-add x y place _

-- a point lies on each day between its ends
from_least : (p : Point) (d : ℤ) → least_of p.low p.high ≤ℤ point_at p d
from_least p d = grind (arith, ints)

to_greatest : (p : Point) (d : ℤ) → point_at p d ≤ℤ greatest_of p.low p.high
to_greatest p d = grind (arith, ints)

-- what is round two periods that overlap overlaps
round_overlap : (a b p q : FixedPeriod) → a.start ≤ℤ p.start → p.end ≤ℤ a.end → b.start ≤ℤ q.start → q.end ≤ℤ b.end → overlaps_period p q ≡ true → DoOverlap a b
round_overlap a b p q al ah bl bh h =
    let both = and_parts (are_nonempty p q) (int_lt p.start q.end && int_lt q.start p.end) h in
    let some = and_parts (not (is_empty_period p)) (not (is_empty_period q)) both.0 in
    let meet = and_parts (int_lt p.start q.end) (int_lt q.start p.end) both.1 in
    record {
      first = grind (arith, ints, al, ah, some.0);
      second = grind (arith, ints, bl, bh, some.1);
      before = grind (arith, ints, al, bh, meet.0);
      after = grind (arith, ints, bl, ah, meet.1);
    }

-- the two columns that lie across are those that were given, the left one first
pub across_is : (width m n : ℕ) (pair : ColPair) → across width (Some m) (Some n) ≡ Some pair
    → (pair.left < width) × (((pair.left ≡ m) × (width + pair.right ≡ n)) ⊎ ((pair.left ≡ n) × (width + pair.right ≡ m)))
across_is width m n pair e = at (nat_lt m width && nat_le width n) (nat_lt n width && nat_le width m) refl refl e
  where
    at : (b c : Bool) → (nat_lt m width && nat_le width n) ≡ b → (nat_lt n width && nat_le width m) ≡ c
        → (if b then Some (record { left = m; right = n - width }) else (if c then Some (record { left = n; right = m - width }) else None)) ≡ Some pair
        → (pair.left < width) × (((pair.left ≡ m) × (width + pair.right ≡ n)) ⊎ ((pair.left ≡ n) × (width + pair.right ≡ m)))
    at true c is _ e =
        subst (λ p. (p.left < width) × (((p.left ≡ m) × (width + p.right ≡ n)) ⊎ ((p.left ≡ n) × (width + p.right ≡ m)))) (same_Some _ pair e) (grind (arith, is), inl (refl, grind (arith, is)))
    at false true is ie e =
        subst (λ p. (p.left < width) × (((p.left ≡ m) × (width + p.right ≡ n)) ⊎ ((p.left ≡ n) × (width + p.right ≡ m)))) (same_Some _ pair e) (grind (arith, ie), inr (refl, grind (arith, ie)))
    at false false is ie e = cc

-- values overlap in either order
overlap_turned : (x y : FixedValue) → relates pred.Overlaps x y ≡ true → relates pred.Overlaps y x ≡ true
overlap_turned (f.Period p) (f.Period q) e = grind (arith, ints, e)
overlap_turned (f.Period p) (f.Int n) e = cc
overlap_turned (f.Period p) (f.Text n) e = cc
overlap_turned (f.Period p) (f.Date n) e = cc
overlap_turned (f.Int p) y e = cc
overlap_turned (f.Text p) y e = cc
overlap_turned (f.Date p) y e = cc

-- where two columns are told to overlap, so are those that are found across, where they are
pub across_tells : (found : Option ColPair) (part : Cond) (width m n : ℕ) → found ≡ across width (Some m) (Some n)
    → ((d : ℤ) (row : Fixed) → truth d row part ≡ true → relates pred.Overlaps (column row m) (column row n) ≡ true)
    → IfSome found (λ pair. (d : ℤ) (row : Fixed) → truth d row part ≡ true → relates pred.Overlaps (column row pair.left) (column row (width + pair.right)) ≡ true)
across_tells (Some pair) part width m n is told =
    λ d row holds. elim (across_is width m n pair (sym is)).1 [
      | inl same ↦ ap₂ (λ a b. relates pred.Overlaps (column row a) (column row b)) same.0 same.1 ∙ told d row holds
      | inr turned ↦ ap₂ (λ a b. relates pred.Overlaps (column row a) (column row b)) turned.0 turned.1 ∙ overlap_turned (column row m) (column row n) (told d row holds)
    ]
across_tells None part width m n is told = tt

-- and the left one is a column of the left row
pub across_within : (found : Option ColPair) (width m n : ℕ) → found ≡ across width (Some m) (Some n) → IfSome found (λ pair. pair.left < width)
across_within (Some pair) width m n is = (across_is width m n pair (sym is)).0
across_within None width m n is = tt

-- where values are periods that overlap on some day, so do their spans
values_overlap : (x y : Value) (d : ℤ) → relates pred.Overlaps (value_at x d) (value_at y d) ≡ true → DoOverlap (span_of x) (span_of y)
values_overlap (v.Period i) (v.Period j) d h =
    round_overlap (span_of (v.Period i)) (span_of (v.Period j)) (period_at i d) (period_at j d) (from_least i.start d) (to_greatest i.end d) (from_least j.start d) (to_greatest j.end d) h
values_overlap (v.Period i) (v.Int n) d h = cc
values_overlap (v.Period i) (v.Text n) d h = cc
values_overlap (v.Period i) (v.Point n) d h = cc
values_overlap (v.Int m) y d h = cc
values_overlap (v.Text m) y d h = cc
values_overlap (v.Point m) y d h = cc

-- the same of values that may be wanting
found_overlap : (x y : Option Value) (d : ℤ)
    → relates pred.Overlaps (unwrap_or (option_map (λ v. value_at v d) x) no_value) (unwrap_or (option_map (λ v. value_at v d) y) no_value) ≡ true → DoOverlap (span_at x) (span_at y)
found_overlap (Some x) (Some y) d h = values_overlap x y d h
found_overlap (Some (v.Int m)) None d h = cc
found_overlap (Some (v.Text m)) None d h = cc
found_overlap (Some (v.Point m)) None d h = cc
found_overlap (Some (v.Period m)) None d h = cc
found_overlap None y d h = cc

-- the value of a column on a day
column_found : (row : List Value) (place : ℕ) (d : ℤ) → column (row_at row d) place ≡ unwrap_or (option_map (λ v. value_at v d) (slice_get row place)) no_value
column_found row place d =
    sym (unwrap_or-slice_get (row_at row d) place no_value) ∙ ap (λ o. unwrap_or o no_value) (slice_get-map (λ v. value_at v d) row place)

-- where the periods in the two columns overlap, so do the spans of the columns
columns_overlap : (x y : List Value) (width : ℕ) (pair : ColPair) (d : ℤ) → length x ≡ width → pair.left < width
    → relates pred.Overlaps (column (row_at x d ++ row_at y d) pair.left) (column (row_at x d ++ row_at y d) (width + pair.right)) ≡ true
    → DoOverlap (span_at (slice_get x pair.left)) (span_at (slice_get y pair.right))
columns_overlap x y width pair d long within h =
    let wide : length (row_at x d) ≡ width = length-map x (λ v. value_at v d) ∙ long in
    let l = column_of_left (row_at x d) (row_at y d) width pair.left wide within ∙ column_found x pair.left d in
    let r = column_of_right (row_at x d) (row_at y d) width pair.right wide ∙ column_found y pair.right d in
    found_overlap (slice_get x pair.left) (slice_get y pair.right) d (ap₂ (relates pred.Overlaps) (sym l) (sym r) ∙ h)

-- the spans tell which rows can meet, where each left row is known to have its column
pub columns_told : (left right : Relation) (width place : ℕ) (pair : ColPair) (known : Bool) (holds : ℤ → Fixed → Bool) → pair.left < width → place ≡ width + pair.right
    → (known ≡ true → All (λ p. length p.0 ≡ width) left)
    → ((d : ℤ) (row : Fixed) → holds d row ≡ true → relates pred.Overlaps (column row pair.left) (column row place) ≡ true)
    → AreTold (λ x y. x ++ y) row_at holds (span_in known pair.left) (span_in known pair.right) left right
columns_told left right width place pair false holds within is_place wide says =
    λ i p i_in j q j_in d day h. record { first = search arith; second = search arith; before = search arith; after = search arith }
columns_told left right width place pair true holds within is_place wide says =
    λ i p i_in j q j_in d day h.
    let row = row_at (get_or left i p).0 d ++ row_at (get_or right j q).0 d in
    columns_overlap (get_or left i p).0 (get_or right j q).0 width pair d (wide refl i p i_in) within
    (ap (λ n. relates pred.Overlaps (column row pair.left) (column row n)) (sym is_place) ∙ says d row h)

-- where each left row has so many values, the two columns of the glued row are those of the pair
pub columns_of_pair : (d : ℤ) (width place : ℕ) (pair : ColPair) (rest : List Cond) (xs ys : List Fixed) → place ≡ width + pair.right → pair.left < width → All (λ x. length x ≡ width) xs
    → matches (λ x y. do_overlap_and d pair.left place rest (x ++ y)) xs ys ≡ matches (λ x y. do_overlap x y pair && all_hold d rest (x ++ y)) xs ys
columns_of_pair d width place pair rest xs ys is_place within wide =
    matches-same (λ x. length x ≡ width) (λ y. y ≡ y) (λ x y. do_overlap_and d pair.left place rest (x ++ y)) (λ x y. do_overlap x y pair && all_hold d rest (x ++ y))
    (λ x y long _.
    let right = ap (column (x ++ y)) is_place ∙ column_of_right x y width pair.right long in
    ap₂ (λ a b. relates pred.Overlaps a b && all_hold d rest (x ++ y)) (column_of_left x y width pair.left long within) right)
    xs ys wide (λ k y k_in. refl)

-- where no left row has the column, none matches
pub no_column : (d : ℤ) (width : ℕ) (pair : ColPair) (rest : List Cond) (xs ys : List Fixed) → width ≤ pair.left → All (λ x. length x ≡ width) xs
    → matches (λ x y. do_overlap x y pair && all_hold d rest (x ++ y)) xs ys ≡ []
no_column d width pair rest xs ys past wide =
    matches-none (λ x. length x ≡ width) (λ y. y ≡ y) (λ x y. do_overlap x y pair && all_hold d rest (x ++ y))
    (λ x y long _. ap (λ value. relates pred.Overlaps value (column y pair.right) && all_hold d rest (x ++ y)) (get_or_past x pair.left no_value (omega (arith, long, past))))
    xs ys wide (λ k y k_in. refl)

-- where all pass a test, so does the one at a place
passes_at : {A : Type 0} (p : A → Bool) (xs : List A) (i : ℕ) (x : A) → i < length xs → x ≡ get_or xs i x → list_all p xs ≡ true → p x ≡ true
passes_at p xs i x within is all = ap p is ∙ at (p (get_or xs i x)) refl
  where
    at : (b : Bool) → p (get_or xs i x) ≡ b → p (get_or xs i x) ≡ true
    at true e = e
    at false e = absurd (true≢false (sym all ∙ list_all_at p xs i x within e))

-- what one of the parts says, all say together
pub part_says : (parts : List Cond) (i : ℕ) (part : Cond) (a b : ℕ) → i < length parts → part ≡ get_or parts i part
    → ((d : ℤ) (row : Fixed) → truth d row part ≡ true → relates pred.Overlaps (column row a) (column row b) ≡ true)
    → (d : ℤ) (row : Fixed) → all_hold d parts row ≡ true → relates pred.Overlaps (column row a) (column row b) ≡ true
part_says parts i part a b within is says d row all = says d row (passes_at (truth d row) parts i part within is all)

-- a truth that another one follows from
implied : (a b : Bool) → (b ≡ true → a ≡ true) → b ≡ (a && b)
implied a true h = sym (ap (λ x. x && true) (h refl))
implied true false h = refl
implied false false h = refl

-- where the parts say that the columns overlap, a test of it adds nothing
pub already_said : (d : ℤ) (parts : List Cond) (a b : ℕ) → ((d : ℤ) (row : Fixed) → all_hold d parts row ≡ true → relates pred.Overlaps (column row a) (column row b) ≡ true)
    → (xs ys : List Fixed) → matches (λ x y. all_hold d parts (x ++ y)) xs ys ≡ matches (λ x y. do_overlap_and d a b parts (x ++ y)) xs ys
already_said d parts a b say xs ys =
    λ i. matches (λ x y. implied (relates pred.Overlaps (column (x ++ y) a) (column (x ++ y) b)) (all_hold d parts (x ++ y)) (say d (x ++ y)) i) xs ys

-- and otherwise the condition on the columns says it
pub condition_is : (cond : Cond) (a b : ℕ) → cond ≡ c.Relate pred.Overlaps (e.Column a) (e.Column b)
    → (d : ℤ) (row : Fixed) → relates pred.Overlaps (column row a) (column row b) ≡ truth d row cond
condition_is cond a b is d row =
    ap₂ (relates pred.Overlaps) (sym (meaning-Column d row a)) (sym (meaning-Column d row b)) ∙ sym (truth-Relate d row pred.Overlaps (e.Column a) (e.Column b)) ∙ ap (truth d row) (sym is)

pub now_said : (d : ℤ) (cond : Cond) (parts : List Cond) (a b : ℕ) → cond ≡ c.Relate pred.Overlaps (e.Column a) (e.Column b)
    → (xs ys : List Fixed) → matches (λ x y. truth d (x ++ y) cond && all_hold d parts (x ++ y)) xs ys ≡ matches (λ x y. do_overlap_and d a b parts (x ++ y)) xs ys
now_said d cond parts a b is xs ys = λ i. matches (λ x y. sym (condition_is cond a b is d (x ++ y)) i && all_hold d parts (x ++ y)) xs ys
