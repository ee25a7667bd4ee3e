-- The tree of the FROM items has the combinations of their rows for which all parts hold.
use Rattle.std.proofs.Common.{◌≡◌, ◌++◌, ◌+◌, ◌<◌, ◌&&◌, ◌||◌, ℕ, ℤ, suc, Bool, true, false, List, [], ◌∷◌, length, map, refl, sym, ap, ap₂, subst, ◌∙◌, arith}
use Rattle.std.specs.List.{AllByRecursion, flat_map, list_any}
use Rattle.std.proofs.lemmas.List.{append-nil, append_assoc, length-append}
use Rattle.og_value.specs.declared.kind.Kind.{Kind}
use Rattle.og_query.specs.Combinations.{combinations}
use Rattle.og_query.specs.Queries.{Fixed, Named}
use Rattle.og_query.specs.declared.condition.Cond.{Cond}
use Rattle.og_query.specs.declared.query.From1.{From1}
use Rattle.og_plan.specs.declared.plan.Home.TheVariants.{Leaf, Join}
use Rattle.og_plan.specs.declared.plan.Plan.{Plan}
use Rattle.og_plan.specs.declared.plan.Plan.TheVariants.{Scan}
use Rattle.og_plan.specs.Homes.{parts_at}
use Rattle.og_plan.specs.Joins.{joined_by}
use Rattle.og_plan.specs.Meaning.{all_hold, node_rows, plan_rows}
use Rattle.og_plan.specs.Parts.{places_of, cond_from}
use Rattle.og_plan.specs.PlanOf.{widths_of, leaf_of, joined_from, tree_of}
use Rattle.og_plan.proofs.PlanEquations.{fold-Scan}
use Rattle.og_plan.proofs.MeaningPlaces.{all_both}
use Rattle.og_plan.proofs.MeaningHomes.{columns}
use Rattle.og_plan.proofs.MeaningJoins.{any_joined, any_filtered, meet, any_of_join, meet_told}
use Rattle.og_plan.proofs.MeaningHeld.{held, held_at_leaf, held_more, held_first, held_all}

-- a row of the one list joined to one of the other, for each of both
abbrev all_joined : List Fixed → List Fixed → List Fixed
all_joined lefts rights = flat_map (λ l. map (λ r. l ++ r) rights) lefts

-- each row has so many values
abbrev pub AreWide : ℕ → List Fixed → Type 0
AreWide n rows = AllByRecursion (λ row. length row ≡ n) rows

-- two tests that agree on all agree on some
any_agree : {A : Type 0} (p q : A → Bool) (xs : List A) → AllByRecursion (λ x. p x ≡ q x) xs → list_any p xs ≡ list_any q xs
any_agree p q [] all = refl
any_agree p q (x ∷ xs) all = ap₂ (λ a b. a || b) all.0 (any_agree p q xs all.1)

-- a truth and some test is some test with that truth
and_any : {A : Type 0} (b : Bool) (p : A → Bool) (xs : List A) → (b && list_any p xs) ≡ list_any (λ x. b && p x) xs
and_any true p xs = refl
and_any false p [] = refl
and_any false p (x ∷ xs) = and_any false p xs

-- four truths, of which the first three are together
and_grouped : (a b c e : Bool) → (a && (b && (c && e))) ≡ ((a && (b && c)) && e)
and_grouped true true c e = refl
and_grouped true false c e = refl
and_grouped false b c e = refl

-- rows joined to the empty row are themselves
joined_to_none : (rows : List Fixed) → all_joined rows ([] ∷ []) ≡ rows
joined_to_none [] = refl
joined_to_none (row ∷ rows) = ap₂ (λ x xs. x ∷ xs) (append-nil row) (joined_to_none rows)

-- rows joined to others and then to combinations are joined to the combinations of both
any_regrouped : (t : Fixed → Bool) (lefts rows rests : List Fixed) → list_any t (all_joined (all_joined lefts rows) rests) ≡ list_any t (all_joined lefts (all_joined rows rests))
any_regrouped t lefts rows rests =
    any_joined t (all_joined lefts rows) rests
    ∙ any_joined (λ l. list_any (λ r. t (l ++ r)) rests) lefts rows
    ∙ (λ i. list_any (λ l. list_any (λ r. list_any (λ c. t (append_assoc l r c i)) rests) rows) lefts)
    ∙ (λ i. list_any (λ l. sym (any_joined (λ x. t (l ++ x)) rows rests) i) lefts)
    ∙ sym (any_joined t lefts (all_joined rows rests))

-- the rows that a row is joined to are as wide as both together
wide_after : (m n : ℕ) (l : Fixed) (rights : List Fixed) → length l ≡ m → AreWide n rights → AreWide (m + n) (map (λ r. l ++ r) rights)
wide_after m n l [] wide all = tt
wide_after m n l (r ∷ rights) wide all = (length-append l r ∙ ap₂ (λ x y. x + y) wide all.0, wide_after m n l rights wide all.1)

-- joined rows are as wide as both together
wide_joined : (m n : ℕ) (lefts rights : List Fixed) → AreWide m lefts → AreWide n rights → AreWide (m + n) (all_joined lefts rights)
wide_joined m n [] rights all other = tt
wide_joined m n (l ∷ lefts) rights all other =
    all_both (λ row. length row ≡ m + n) (map (λ r. l ++ r) rights) (all_joined lefts rights) (wide_after m n l rights all.0 other) (wide_joined m n lefts rights all.1 other)

-- the columns of items and one more
columns_more : (front : List ℕ) (width : ℕ) → columns (front ++ width ∷ []) ≡ columns front + width
columns_more [] width = omega arith
columns_more (w ∷ front) width = omega (arith, columns_more front width)

-- how many items there are, and one more
length_more : (front : List ℕ) (width : ℕ) → length (front ++ width ∷ []) ≡ suc (length front)
length_more [] width = refl
length_more (w ∷ front) width = ap suc (length_more front width)

module _ (d : ℤ) (rows : Named) (kinds : List Kind) (widths : List ℕ) (parts : List Cond) where
  -- the plan has the rows for which what belongs before item k holds, in some order
  abbrev HasHeld : ℕ → List Fixed → Plan → Type 0
  HasHeld k all plan = (t : Fixed → Bool) → list_any t (plan_rows d rows plan) ≡ list_any (λ row. held d widths parts k row && t row) all

  -- of some row of a leaf: of some row of its table for which the parts of the leaf hold
  any_of_leaf : (t : Fixed → Bool) (k start : ℕ) (table : From1)
      → list_any t (plan_rows d rows (leaf_of widths parts k start table)) ≡ list_any (λ row. held_at_leaf d widths parts k start row && t row) (rows table.name)
  any_of_leaf t k start table =
      any_filtered d rows t (Scan table.name table.schema) (map (cond_from start) (parts_at widths (Leaf k) parts))
      ∙ ap (list_any (λ row. held_at_leaf d widths parts k start row && t row)) (fold-Scan (node_rows d rows) table.name table.schema)

  -- the first leaf
  first_leaf : (table : From1) → HasHeld 1 (rows table.name) (leaf_of widths parts 0 0 table)
  first_leaf table t =
      any_of_leaf t 0 0 table ∙ (λ i. list_any (λ row. held_first d widths parts row i && t row) (rows table.name))

  module _ (front more : List ℕ) (split : front ++ more ≡ widths) (all : List Fixed) (wide : AreWide (columns front) all) (tree : Plan) (has : HasHeld (length front) all tree) (table : From1) where
    -- the parts of the join
    abbrev here : List Cond
    here = parts_at widths (Join (length front)) parts

    -- one row of the tree, joined to the rows of the leaf
    one_joined : (t : Fixed → Bool) (l : Fixed) → length l ≡ columns front
        → (held d widths parts (length front) l && list_any (λ r. meet d rows kinds (columns front) here l r && t (l ++ r)) (plan_rows d rows (leaf_of widths parts (length front) (columns front) table)))
        ≡ list_any (λ r. held d widths parts (suc (length front)) (l ++ r) && t (l ++ r)) (rows table.name)
    one_joined t l e =
        subst
        (λ start. (held d widths parts (length front) l && list_any (λ r. meet d rows kinds start here l r && t (l ++ r)) (plan_rows d rows (leaf_of widths parts (length front) start table)))
        ≡ list_any (λ r. held d widths parts (suc (length front)) (l ++ r) && t (l ++ r)) (rows table.name)) e
        (ap (λ b. held d widths parts (length front) l && b) (any_of_leaf (λ r. meet d rows kinds (length l) here l r && t (l ++ r)) (length front) (length l) table)
        ∙ and_any (held d widths parts (length front) l) (λ r. held_at_leaf d widths parts (length front) (length l) r && (meet d rows kinds (length l) here l r && t (l ++ r))) (rows table.name)
        ∙ (λ i. list_any (λ r. told r i) (rows table.name)))
      where
        told : (r : Fixed) → (held d widths parts (length front) l && (held_at_leaf d widths parts (length front) (length l) r && (meet d rows kinds (length l) here l r && t (l ++ r))))
            ≡ (held d widths parts (suc (length front)) (l ++ r) && t (l ++ r))
        told r =
            and_grouped (held d widths parts (length front) l) (held_at_leaf d widths parts (length front) (length l) r) (meet d rows kinds (length l) here l r) (t (l ++ r))
            ∙ ap (λ b. (held d widths parts (length front) l && (held_at_leaf d widths parts (length front) (length l) r && b)) && t (l ++ r)) (meet_told d rows kinds here l r)
            ∙ ap (λ b. b && t (l ++ r)) (held_more d widths parts front more l r split e)

    -- the tree joined with one more leaf
    one_more : HasHeld (suc (length front)) (all_joined all (rows table.name)) (joined_by kinds (columns front) tree (leaf_of widths parts (length front) (columns front) table) here)
    one_more t =
        any_of_join d rows kinds (columns front) here t tree (leaf_of widths parts (length front) (columns front) table)
        ∙ has (λ l. list_any (λ r. meet d rows kinds (columns front) here l r && t (l ++ r)) (plan_rows d rows (leaf_of widths parts (length front) (columns front) table)))
        ∙ any_agree _ _ all (each all wide)
        ∙ sym (any_joined (λ row. held d widths parts (suc (length front)) row && t row) all (rows table.name))
      where
        each : (ls : List Fixed) → AreWide (columns front) ls
            → AllByRecursion
            (λ l. (held d widths parts (length front) l && list_any (λ r. meet d rows kinds (columns front) here l r && t (l ++ r)) (plan_rows d rows (leaf_of widths parts (length front) (columns front) table)))
            ≡ list_any (λ r. held d widths parts (suc (length front)) (l ++ r) && t (l ++ r)) (rows table.name)) ls
        each [] wide = tt
        each (l ∷ ls) wide = (one_joined t l wide.0, each ls wide.1)

  -- the tree of all items
  all_items : (tables : List From1) (front : List ℕ) (k start : ℕ) → length front ≡ k → columns front ≡ start → front ++ widths_of tables ≡ widths
      → (all : List Fixed) → AreWide start all → (tree : Plan) → HasHeld k all tree → AllByRecursion (λ table. AreWide (length table.schema) (rows table.name)) tables
      → HasHeld (length widths) (all_joined all (combinations (map (λ table. rows table.name) tables))) (joined_from kinds widths parts k start tree tables)
  all_items [] front k start at from split all wide tree has fit t =
      has t
      ∙ ap₂ (λ n base. list_any (λ row. held d widths parts n row && t row) base)
      (sym at ∙ ap length (sym (append-nil front) ∙ split)) (sym (joined_to_none all))
  all_items (table ∷ tables) front k start at from split all wide tree has fit t =
      all_items tables (front ++ length table.schema ∷ []) (suc k) (start + length table.schema)
      (length_more front (length table.schema) ∙ ap suc at)
      (columns_more front (length table.schema) ∙ ap (λ n. n + length table.schema) from)
      (append_assoc front (length table.schema ∷ []) (widths_of tables) ∙ split)
      (all_joined all (rows table.name))
      (wide_joined start (length table.schema) all (rows table.name) wide fit.0)
      (joined_by kinds start tree (leaf_of widths parts k start table) (parts_at widths (Join k) parts))
      (subst (λ n. HasHeld (suc n) (all_joined all (rows table.name)) (joined_by kinds start tree (leaf_of widths parts n start table) (parts_at widths (Join n) parts))) at
      (subst (λ n. HasHeld (suc (length front)) (all_joined all (rows table.name)) (joined_by kinds n tree (leaf_of widths parts (length front) n table) (parts_at widths (Join (length front)) parts))) from
      (one_more front (widths_of (table ∷ tables)) split all (subst (λ n. AreWide n all) (sym from) wide) tree (subst (λ n. HasHeld n all tree) (sym at) has) table)))
      fit.1 t
      ∙ any_regrouped (λ row. held d widths parts (length widths) row && t row) all (rows table.name) (combinations (map (λ table. rows table.name) tables))

-- of some row of the tree of all items: of some combination of their rows for which all parts hold
pub any_of_tree : (d : ℤ) (rows : Named) (kinds : List Kind) (parts : List Cond) (table : From1) (tables : List From1)
    → AllByRecursion (λ part. AllByRecursion (λ place. place < columns (widths_of (table ∷ tables))) (places_of part)) parts
    → AllByRecursion (λ table. AreWide (length table.schema) (rows table.name)) (table ∷ tables) → (t : Fixed → Bool)
    → list_any t (plan_rows d rows (tree_of kinds (widths_of (table ∷ tables)) parts (table ∷ tables)))
    ≡ list_any (λ row. all_hold d parts row && t row) (combinations (map (λ table. rows table.name) (table ∷ tables)))
any_of_tree d rows kinds parts table tables within fit t =
    all_items d rows kinds (widths_of (table ∷ tables)) parts tables (length table.schema ∷ []) 1 (length table.schema) refl (omega arith) refl
    (rows table.name) fit.0 (leaf_of (widths_of (table ∷ tables)) parts 0 0 table) (first_leaf d rows kinds (widths_of (table ∷ tables)) parts table) fit.1 t
    ∙ (λ i. list_any (λ row. held_all d (widths_of (table ∷ tables)) parts row (omega arith) within i && t row) (combinations (map (λ table. rows table.name) (table ∷ tables))))
