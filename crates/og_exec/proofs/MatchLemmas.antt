-- Rows that are matched: by tests that agree on the members, by a test that no member passes or that all pass, by one test more; and what each matched row is.
use Rattle.std.proofs.Common.{◌≡◌, ◌++◌, ◌+◌, ◌<◌, ◌&&◌, ℕ, Bool, true, false, List, [], ◌∷◌, length, get_or, take, map, filter, if◌then◌else◌, refl, sym, ap, ap₂, ◌∙◌}
use Rattle.std.specs.List.{All, flat_map, list_all}
use Rattle.std.proofs.lemmas.List.{map-id}
use Rattle.std.proofs.lemmas.List.Elements.{All-nil, All-head, All-tail, All-append, All-map, All-filter, All-weaker}
use Rattle.std.proofs.lemmas.List.Folds.{list_all_more}
use Rattle.og_base.specs.Set.{set_of}
use Rattle.og_base.proofs.SetLemmas.{All-set_of}
use Rattle.og_value.specs.Order.{row_order}
use Rattle.og_ops.proofs.RowLemmas.{set_of-map}
use Rattle.og_query.proofs.QueryLemmas.{rows_ordered}
use Rattle.og_query.specs.Queries.{Fixed}
use Rattle.og_plan.specs.Meaning.{matches}
use Rattle.og_exec.specs.Images.{images}

-- of a test that all pass
pub filter-all : {A : Type 0} (xs : List A) → filter (λ _. true) xs ≡ xs
filter-all [] = refl
filter-all (x ∷ xs) = ap (λ ys. x ∷ ys) (filter-all xs)

-- of a test that none passes
filter-none : {A : Type 0} (xs : List A) → filter (λ _. false) xs ≡ []
filter-none [] = refl
filter-none (x ∷ xs) = filter-none xs

-- of tests that agree on the members
filter-same : {A : Type 0} (p q : A → Bool) (xs : List A) → All (λ x. p x ≡ q x) xs → filter p xs ≡ filter q xs
filter-same p q [] same = refl
filter-same p q (x ∷ xs) same =
    ap₂ (λ b ys. if b then x ∷ ys else ys) (All-head (λ x. p x ≡ q x) x xs same) (filter-same p q xs (All-tail (λ x. p x ≡ q x) x xs same))

-- of what passes another test
filter-filter : {A : Type 0} (p q : A → Bool) (xs : List A) → filter q (filter p xs) ≡ filter (λ x. p x && q x) xs
filter-filter p q [] = refl
filter-filter {A = A} p q (x ∷ xs) = at (p x) (filter-filter p q xs)
  where
    both : List A
    both = filter (λ x. p x && q x) xs

    at : (b : Bool) → filter q (filter p xs) ≡ both → filter q (if b then x ∷ filter p xs else filter p xs) ≡ (if b && q x then x ∷ both else both)
    at true e = ap (λ ys. if q x then x ∷ ys else ys) e
    at false e = e

-- of what meets some, those that meet the next meet them all
pub met_more : {A S : Type 0} (meets : A → S → Bool) (semis : List S) (k : ℕ) (semi : S) (xs old new : List A) → k < length semis → semi ≡ get_or semis k semi
    → old ≡ filter (λ x. list_all (meets x) (take k semis)) xs → new ≡ filter (λ x. meets x semi) old
    → new ≡ filter (λ x. list_all (meets x) (take (k + 1) semis)) xs
met_more meets semis k semi xs old new within is before step =
    step ∙ ap (filter (λ x. meets x semi)) before
    ∙ filter-filter (λ x. list_all (meets x) (take k semis)) (λ x. meets x semi) xs
    ∙ (λ i. filter (λ x. list_all (meets x) (take k semis) && meets x (is i)) xs)
    ∙ (λ i. filter (λ x. sym (list_all_more (meets x) semis k semi within) i) xs)

-- the pairs that meet, each joined to one row
abbrev pairs : (Fixed → Fixed → Bool) → List Fixed → List Fixed → List Fixed
pairs meets lefts rights = flat_map (λ left. map (λ right. left ++ right) (filter (meets left) rights)) lefts

-- of a test that all pass: each with each
pairs-all : (xs ys : List Fixed) → flat_map (λ x. map (λ y. x ++ y) ys) xs ≡ pairs (λ _ _. true) xs ys
pairs-all [] ys = refl
pairs-all (x ∷ xs) ys = λ i. map (λ y. x ++ y) (back i) ++ pairs-all xs ys i
  where
    back : ys ≡ filter (λ _. true) ys
    back = sym (filter-all ys)

-- all combinations are what is matched by a test that all pass
pub matches-all : (xs ys : List Fixed) → set_of row_order (flat_map (λ x. map (λ y. x ++ y) ys) xs) ≡ matches (λ _ _. true) xs ys
matches-all xs ys = ap (set_of row_order) (pairs-all xs ys)

-- what is matched is a set, of its rows as they are
pub matches-whole : (meets : Fixed → Fixed → Bool) (xs ys : List Fixed) → matches meets xs ys ≡ images (λ row. row) (matches meets xs ys)
matches-whole meets xs ys = ap (set_of row_order) (sym (map-id (pairs meets xs ys))) ∙ set_of-map rows_ordered (λ row. row) (pairs meets xs ys)

-- of a test that no pair passes
pairs-none : (xs ys : List Fixed) → pairs (λ _ _. false) xs ys ≡ []
pairs-none [] ys = refl
pairs-none (x ∷ xs) ys = ap₂ (λ a b. a ++ b) (ap (map (λ right. x ++ right)) (filter-none ys)) (pairs-none xs ys)

module _ (P Q : Fixed → Type 0) where
  -- of tests that agree on what the left and the right rows are
  pairs-same : (m n : Fixed → Fixed → Bool) → ((x y : Fixed) → P x → Q y → m x y ≡ n x y) → (xs ys : List Fixed) → All P xs → All Q ys → pairs m xs ys ≡ pairs n xs ys
  pairs-same m n same [] ys left right = refl
  pairs-same m n same (x ∷ xs) ys left right =
      ap₂ (λ a b. a ++ b)
      (ap (map (λ y. x ++ y)) (filter-same (m x) (n x) ys (All-weaker Q (λ y. m x y ≡ n x y) (λ y q. same x y (All-head P x xs left) q) ys right)))
      (pairs-same m n same xs ys (All-tail P x xs left) right)

  -- tests that agree on what the left and the right rows are match the same rows
  pub matches-same : (m n : Fixed → Fixed → Bool) → ((x y : Fixed) → P x → Q y → m x y ≡ n x y) → (xs ys : List Fixed) → All P xs → All Q ys → matches m xs ys ≡ matches n xs ys
  matches-same m n same xs ys left right = ap (set_of row_order) (pairs-same m n same xs ys left right)

  -- a test that none of the left and right rows passes matches none
  pub matches-none : (m : Fixed → Fixed → Bool) → ((x y : Fixed) → P x → Q y → m x y ≡ false) → (xs ys : List Fixed) → All P xs → All Q ys → matches m xs ys ≡ []
  matches-none m never xs ys left right = matches-same m (λ _ _. false) never xs ys left right ∙ ap (set_of row_order) (pairs-none xs ys)

  -- what two rows joined are, each of the pairs is
  all_pairs : (R : Fixed → Type 0) → ((x y : Fixed) → P x → Q y → R (x ++ y)) → (m : Fixed → Fixed → Bool) (xs ys : List Fixed) → All P xs → All Q ys → All R (pairs m xs ys)
  all_pairs R both m [] ys left right = All-nil R
  all_pairs R both m (x ∷ xs) ys left right =
      All-append R (map (λ y. x ++ y) (filter (m x) ys)) (pairs m xs ys)
      (All-map R (λ y. x ++ y) (filter (m x) ys) (All-weaker Q (λ y. R (x ++ y)) (λ y q. both x y (All-head P x xs left) q) (filter (m x) ys) (All-filter (m x) Q ys right)))
      (all_pairs R both m xs ys (All-tail P x xs left) right)

  -- and so each matched row
  pub all_matches : (R : Fixed → Type 0) → ((x y : Fixed) → P x → Q y → R (x ++ y)) → (m : Fixed → Fixed → Bool) (xs ys : List Fixed) → All P xs → All Q ys → All R (matches m xs ys)
  all_matches R both m xs ys left right = All-set_of row_order R (pairs m xs ys) (all_pairs R both m xs ys left right)
