-- The combinations from some places on are the row at these places and those from the next places on.
use Rattle.std.proofs.Common.{◌≡◌, ◌++◌, ◌<◌, ◌&&◌, ℕ, suc, nat_lt, Bool, true, false, List, [], ◌∷◌, Option, Some, None, length, drop, map, filter, slice_index_or, if◌then◌else◌, refl, sym, ap, subst, ◌∙◌, true≢false, arith}
use Rattle.std.specs.List.{flat_map, list_all}
use Rattle.std.proofs.Math.ListN.{drop_of_length-le}
use Rattle.std.proofs.Math.Seq.{drop-cons}
use Rattle.std.proofs.lemmas.List.{append-nil, append_assoc}
use Rattle.std.proofs.lemmas.List.Folds.{list_all-map}
use Rattle.std.proofs.lemmas.Bool.{lt-ltb, ltb-true, ltb-false}
use Rattle.og_query.specs.Combinations.{combinations}
use Rattle.og_query.specs.Walk.{all_have_rows, zeros, stepped, next_places, row_from, left_from, left_of}

-- what a function makes of a truth that is known
by_truth : {A : Type 0} (P : A → Type 0) (b : Bool) (x y : A) → (b ≡ true → P x) → (b ≡ false → P y) → P (if b then x else y)
by_truth P true x y yes_it no_it = yes_it refl
by_truth P false x y yes_it no_it = no_it refl

-- nothing, of anything
abbrev nothing : {A B : Type 0} → A → List B
nothing x = []

-- nothing is made of rows of which nothing is made
nothing_of_each : {A B : Type 0} (rows : List A) → flat_map (nothing {A = A} {B = B}) rows ≡ []
nothing_of_each [] = refl
nothing_of_each (row ∷ rows) = nothing_of_each rows

-- the lengths of what a function gives of each
pub length_of_each : {A B : Type 0} (f : A → List B) (xs : List A) → map (λ x. length (f x)) xs ≡ map length (map f xs)
length_of_each f [] = refl
length_of_each f (x ∷ xs) = ap (λ sizes. length (f x) ∷ sizes) (length_of_each f xs)

module _ {U : Type 0} where
  -- behind a list with a row, all have one where all do
  behind_some : (row : List U) (rows : List (List U)) (more : List (List (List U))) (b : Bool) → all_have_rows ((row ∷ rows) ∷ more) ≡ b → all_have_rows more ≡ b
  behind_some row rows more b e = sym (ap (λ c. c && all_have_rows more) (lt-ltb 0 (suc (length rows)) (omega arith))) ∙ e

  -- where a list has no row there are no combinations
  pub combinations_none : (lists : List (List (List U))) → all_have_rows lists ≡ false → combinations lists ≡ []
  combinations_none [] e = absurd (true≢false e)
  combinations_none ([] ∷ more) e = refl
  combinations_none ((row ∷ rows) ∷ more) e = ap (λ rests. flat_map (λ row. map (λ rest. row ++ rest) rests) (row ∷ rows)) (combinations_none more (behind_some row rows more false e)) ∙ nothing_of_each (row ∷ rows)

  -- from the first places on there are all combinations
  pub left_from_zeros : (lists : List (List (List U))) → all_have_rows lists ≡ true → left_from lists (zeros (map length lists)) ≡ combinations lists
  left_from_zeros [] e = refl
  left_from_zeros ([] ∷ more) e = absurd (true≢false (sym e))
  left_from_zeros ((row ∷ rows) ∷ more) e = ap (λ rests. map (λ rest. row ++ rest) rests ++ combinations (rows ∷ more)) (left_from_zeros more (behind_some row rows more true e))

  module _ (rows : List (List U)) (more : List (List (List U))) (place : ℕ) (some : all_have_rows more ≡ true) where
    -- behind a place that goes on no further the next place begins anew
    turned_over : combinations (drop (suc place) rows ∷ more) ≡ left_of (rows ∷ more) (stepped (length rows) (map length more) place None)
    turned_over =
        by_truth (λ next. combinations (drop (suc place) rows ∷ more) ≡ left_of (rows ∷ more) next)
        (nat_lt (suc place) (length rows)) (Some (suc place ∷ zeros (map length more))) None
        (λ e.
        ap (λ rest. combinations (rest ∷ more)) (drop-cons rows (suc place) [] (ltb-true (suc place) (length rows) e))
        ∙ ap (λ rests. map (λ rest. slice_index_or rows (suc place) [] ++ rest) rests ++ combinations (drop (suc (suc place)) rows ∷ more)) (sym (left_from_zeros more some)))
        (λ e. ap (λ rest. combinations (rest ∷ more)) (drop_of_length-le rows (ltb-false (suc place) (length rows) e)))

    -- the rest of the combinations with the row at this place, and all those behind it
    rest_of : (next : Option (List ℕ))
        → map (λ rest. slice_index_or rows place [] ++ rest) (left_of more next) ++ combinations (drop (suc place) rows ∷ more) ≡ left_of (rows ∷ more) (stepped (length rows) (map length more) place next)
    rest_of (Some places) = refl
    rest_of None = turned_over

  -- the combinations from some places on
  pub left_step : (lists : List (List (List U))) (places : List ℕ) → all_have_rows lists ≡ true → left_from lists places ≡ row_from lists places ∷ left_of lists (next_places (map length lists) places)
  left_step [] places e = refl
  left_step (rows ∷ more) [] e = refl
  left_step (rows ∷ more) (place ∷ places) e =
      let some = second (nat_lt 0 (length rows)) e in
      ap (λ rests. map (λ rest. slice_index_or rows place [] ++ rest) rests ++ combinations (drop (suc place) rows ∷ more)) (left_step more places some)
      ∙ ap (λ rows_left. (slice_index_or rows place [] ++ row_from more places) ∷ rows_left) (rest_of rows more place some (next_places (map length more) places))
    where
      second : (b : Bool) → (b && all_have_rows more) ≡ true → all_have_rows more ≡ true
      second true e = e
      second false e = absurd (true≢false (sym e))

  module _ (lists : List (List (List U))) (sizes : List ℕ) (is : sizes ≡ map length lists) where
    -- where all sizes are above 0, all lists have rows
    pub rows_everywhere : (b : Bool) → b ≡ list_all (nat_lt 0) sizes → b ≡ all_have_rows lists
    rows_everywhere b e = e ∙ ap (list_all (nat_lt 0)) is ∙ list_all-map (nat_lt 0) length lists

    -- at the first places, and where a list has no row nowhere, the walk has all combinations before it
    pub walk_begins : (b : Bool) (places : List ℕ) → b ≡ list_all (nat_lt 0) sizes → places ≡ zeros sizes → left_of lists (if b then Some places else None) ≡ combinations lists
    walk_begins true places e p = (λ i. left_from lists ((p ∙ ap zeros is) i)) ∙ left_from_zeros lists (sym (rows_everywhere true e))
    walk_begins false places e p = sym (combinations_none lists (sym (rows_everywhere false e)))

    -- the walk has the combination at its places before it, and those from the next places on
    pub walk_goes_on : (was b : Bool) (places next : List ℕ) → was ≡ true → all_have_rows lists ≡ true → next_places sizes places ≡ (if b then Some next else None)
        → left_of lists (if was then Some places else None) ≡ row_from lists places ∷ left_of lists (if b then Some next else None)
    walk_goes_on was b places next t some e =
        ap (λ was. left_of lists (if was then Some places else None)) t ∙ left_step lists places some ∙ ap (λ step. row_from lists places ∷ left_of lists step) (ap (λ ns. next_places ns places) (sym is) ∙ e)

    -- and so has fewer before it
    pub walk_shrinks : (was b : Bool) (places next : List ℕ) → was ≡ true → all_have_rows lists ≡ true → next_places sizes places ≡ (if b then Some next else None)
        → length (left_of lists (if b then Some next else None)) < length (left_of lists (if was then Some places else None))
    walk_shrinks was b places next t some e =
        subst (λ left. length (left_of lists (if b then Some next else None)) < length left) (sym (walk_goes_on was b places next t some e)) (omega arith)

-- the image of one row, and those of the rest
pub image_more : {A B : Type 0} (k : A → Bool) (f : A → B) (row : A) (rest : List A) → map f (filter k (row ∷ rest)) ≡ map f (filter k (row ∷ [])) ++ map f (filter k rest)
image_more k f row rest = at (k row)
  where
    at : (b : Bool) → map f (if b then row ∷ filter k rest else filter k rest) ≡ map f (if b then row ∷ [] else []) ++ map f (filter k rest)
    at true = refl
    at false = refl

-- the image of one row that is not kept
pub image_none : {A B : Type 0} (k : A → Bool) (f : A → B) (row is : A) (b : Bool) (images : List B) → row ≡ is → b ≡ k row → b ≡ false → images ≡ images ++ map f (filter k (is ∷ []))
image_none k f row is b images e kept no_one =
    sym (append-nil images) ∙ ap (λ c. images ++ map f (if c then is ∷ [] else [])) (sym no_one ∙ kept ∙ ap k e)

-- the image of one row that is kept
pub image_one : {A B : Type 0} (k : A → Bool) (f : A → B) (row is : A) (b : Bool) (images new : List B) (image : B) → row ≡ is → b ≡ k row → b ≡ true → image ≡ f row → new ≡ images ++ image ∷ []
    → new ≡ images ++ map f (filter k (is ∷ []))
image_one k f row is b images new image e kept one made step =
    step ∙ ap (λ image. images ++ image ∷ []) (made ∙ ap f e) ∙ ap (λ c. images ++ map f (if c then is ∷ [] else [])) (sym one ∙ kept ∙ ap k e)

-- the step of the walk: what is made and what is left give what all combinations give
pub walk_more : {A B : Type 0} (k : A → Bool) (f : A → B) (row : A) (left rest : List A) (old new all : List B) → left ≡ row ∷ rest → new ≡ old ++ map f (filter k (row ∷ []))
    → old ++ map f (filter k left) ≡ all → new ++ map f (filter k rest) ≡ all
walk_more k f row left rest old new all split step before =
    ap (λ images. images ++ map f (filter k rest)) step
    ∙ append_assoc old (map f (filter k (row ∷ []))) (map f (filter k rest))
    ∙ ap (λ images. old ++ images) (sym (image_more k f row rest) ∙ ap (λ rows. map f (filter k rows)) (sym split))
    ∙ before
