-- The plan of a query is made well, and names the tables of the query.
use Rattle.std.proofs.Common.{◌≡◌, ◌<◌, ◌≤◌, ◌+◌, ◌++◌, ◌&&◌, ℕ, suc, not, Bool, true, false, List, [], ◌∷◌, Option, Some, None, fold, map, filter, length, length-append, add-one, if◌then◌else◌, refl, ap, sym, subst, ◌∙◌, append_assoc, append-nil, arith}
use Rattle.std.specs.List.{AllByRecursion, flat_map, list_all}
use Rattle.std.specs.Option.{is_some}
use Rattle.std.proofs.lemmas.Bool.{eqb-true}
use Rattle.std.proofs.lemmas.Grind.{flat_map-append}
use Rattle.std.proofs.lemmas.List.Concat.{flat_map_single}
use Rattle.std.proofs.lemmas.List.{length-map, map-append}
use Rattle.og_value.specs.declared.kind.Kind.{Kind}
use Rattle.og_value.specs.declared.schema.Column.{Column}
use Rattle.og_query.specs.Fits.{core_kinds}
use Rattle.og_query.specs.declared.condition.Cond.{Cond}
use Rattle.og_query.specs.declared.query.Core.{Core}
use Rattle.og_query.specs.declared.query.From1.{From1}
use Rattle.og_query.specs.declared.query.Query.{Query}
use Rattle.og_query.specs.declared.query.Rest.{Rest}
use Rattle.og_query.specs.declared.query.Semi.{Semi}
use Rattle.og_query.specs.Kinds.{kinds_of}
use Rattle.og_plan.specs.Homes.{home_of, same_home, parts_at}
use Rattle.og_plan.specs.Joins.{filtered, overlap_joined, key_joined, joined_by, listed, key_of, overlap_of}
use Rattle.og_plan.specs.Parts.{parts_of, cond_from, places_of}
use Rattle.og_plan.specs.PlanOf.{widths_of, leaf_of, joined_from, tree_of, semi_plan, core_plan, plan_of, HaveTables}
use Rattle.og_plan.specs.Premises.{named_columns, core_tables, query_tables}
use Rattle.og_plan.specs.Shapes.{shape_step, is_key_pair, is_sound, scans_step, scans_of}
use Rattle.og_plan.specs.declared.plan.ColPair.{ColPair}
use Rattle.og_plan.specs.declared.plan.Home.{Home}
use Rattle.og_plan.specs.declared.plan.Home.TheVariants.{Leaf, Join}
use Rattle.og_plan.specs.declared.plan.Plan.{Plan, fold-Plan}
use Rattle.og_plan.specs.declared.plan.Plan.TheVariants.{Scan, Product}
use Rattle.og_plan.specs.declared.plan.Plan.TheOpen as o
use Rattle.og_plan.specs.declared.plan.PlanSemi.{PlanSemi}
use Rattle.og_plan.proofs.KeyLemmas.{parts_are_keys}
use Rattle.og_plan.proofs.MeaningHomes.{columns, item_of, places_before}
use Rattle.og_plan.proofs.PlanEquations.{fold-Scan, fold-Filter, fold-Product, fold-KeyJoin, fold-OverlapJoin}
use Rattle.og_plan.proofs.PlanFolds.{over_semis, fold-tree_of, fold-core_plan, fold-plan_of}

-- a plan of scans, filters, products and joins that is made well, whose rows have these kinds
abbrev HasKinds : List Kind → Plan → Type 0
HasKinds kinds plan = fold-Plan (Option (List Kind) × Bool) shape_step plan ≡ (Some kinds, true)

-- under the parts as a filter a plan has the kinds that it had
filtered_has : (kinds : List Kind) (input : Plan) (parts : List Cond) → HasKinds kinds input → HasKinds kinds (filtered input parts)
filtered_has kinds input [] has = has
filtered_has kinds input (part ∷ parts) has = fold-Filter shape_step input (part ∷ parts) ∙ ap (λ shape. shape_step (o.Filter shape (part ∷ parts))) has

-- a leaf has the kinds of its table
leaf_has : (widths : List ℕ) (parts : List Cond) (k start : ℕ) (table : From1) → HasKinds (kinds_of table.schema) (leaf_of widths parts k start table)
leaf_has widths parts k start table =
    filtered_has (kinds_of table.schema) (Scan table.name table.schema) (map (cond_from start) (parts_at widths (Leaf k) parts)) (fold-Scan shape_step table.name table.schema)

-- two plans that have kinds
module _ (lefts rights : List Kind) (left right : Plan) (has_left : HasKinds lefts left) (has_right : HasKinds rights right) where
  -- a join without keys has those of both
  overlap_joined_has : (pairs : List ColPair) (parts : List Cond) → HasKinds (lefts ++ rights) (overlap_joined left right pairs parts)
  overlap_joined_has [] parts =
      filtered_has (lefts ++ rights) (Product left right) parts (fold-Product shape_step left right ∙ (λ i. shape_step (o.Product (has_left i) (has_right i))))
  overlap_joined_has (pair ∷ pairs) parts = fold-OverlapJoin shape_step left right pair parts ∙ (λ i. shape_step (o.OverlapJoin (has_left i) (has_right i) pair parts))

  -- a join on keys has them, where its keys are keys, and the other join does
  key_joined_has : (pairs : List ColPair) (rest : List Cond) (other : Plan) → list_all (is_key_pair (Some lefts) (Some rights)) pairs ≡ true
      → HasKinds (lefts ++ rights) other → HasKinds (lefts ++ rights) (key_joined left right pairs rest other)
  key_joined_has [] rest other keys has = has
  key_joined_has (pair ∷ pairs) rest other keys has =
      fold-KeyJoin shape_step left right (pair ∷ pairs) rest ∙ (λ i. shape_step (o.KeyJoin (has_left i) (has_right i) (pair ∷ pairs) rest)) ∙ ap (λ well. (Some (lefts ++ rights), well)) keys

  -- the join of both has them, where its keys are keys
  joined_by_has : (kinds : List Kind) (start : ℕ) (parts : List Cond)
      → list_all (is_key_pair (Some lefts) (Some rights)) (flat_map (λ part. listed (key_of kinds start part)) parts) ≡ true
      → HasKinds (lefts ++ rights) (joined_by kinds start left right parts)
  joined_by_has kinds start parts keys =
      let overlapping = flat_map (λ part. listed (overlap_of start part)) parts in
      key_joined_has (flat_map (λ part. listed (key_of kinds start part)) parts) (filter (λ part. not (is_some (key_of kinds start part))) parts) (overlap_joined left right overlapping parts)
      keys (overlap_joined_has overlapping parts)

-- the kinds of the columns of tables
abbrev table_kinds : List From1 → List Kind
table_kinds tables = flat_map (λ table. kinds_of table.schema) tables

-- tables have as many columns as they have kinds
columns_counted : (tables : List From1) → columns (widths_of tables) ≡ length (table_kinds tables)
columns_counted [] = refl
columns_counted (table ∷ tables) =
    (λ i. sym (length-map table.schema (λ column. column.kind)) i + columns_counted tables i) ∙ sym (length-append (kinds_of table.schema) (table_kinds tables))

-- a home at a join is of that item
item_of_join : (home : Home) (k : ℕ) → same_home home (Join k) ≡ true → item_of home ≡ k
item_of_join (Join n) k e = eqb-true n k e
item_of_join (Leaf n) k e = cc

-- the parts at a join name columns of its item and of those before it
parts_within : (front rest : List From1) (k : ℕ) (parts : List Cond) → length front ≡ suc k
    → AllByRecursion (λ part. AllByRecursion (λ place. place < length (table_kinds front)) (places_of part)) (parts_at (widths_of (front ++ rest)) (Join k) parts)
parts_within front rest k [] long = tt
parts_within front rest k (part ∷ parts) long =
    at (same_home (home_of (widths_of (front ++ rest)) part) (Join k)) (parts_at (widths_of (front ++ rest)) (Join k) parts) (parts_within front rest k parts long)
    (λ here. subst (λ n. AllByRecursion (λ place. place < n) (places_of part)) (columns_counted front)
    (places_before (widths_of front) (widths_of rest) part
    (before (home_of (widths_of front ++ widths_of rest) part) (length (widths_of front)) (length-map front (λ table. length table.schema) ∙ long)
    (subst (λ widths. same_home (home_of widths part) (Join k) ≡ true) (map-append (λ table. length table.schema) front rest) here))))
  where
    before : (home : Home) (n : ℕ) → n ≡ suc k → same_home home (Join k) ≡ true → item_of home < n
    before home n long here = omega (arith, long, item_of_join home k here)

    at : (b : Bool) (more : List Cond) → AllByRecursion (λ part. AllByRecursion (λ place. place < length (table_kinds front)) (places_of part)) more
        → (b ≡ true → AllByRecursion (λ place. place < length (table_kinds front)) (places_of part))
        → AllByRecursion (λ part. AllByRecursion (λ place. place < length (table_kinds front)) (places_of part)) (if b then part ∷ more else more)
    at true more within here = (here refl, within)
    at false more within here = within

-- the kinds of tables and of one after them
kinds_after : (before : List From1) (table : From1) → table_kinds (before ++ table ∷ []) ≡ table_kinds before ++ kinds_of table.schema
kinds_after before table = flat_map-append (λ table. kinds_of table.schema) before (table ∷ []) ∙ ap (λ kinds. table_kinds before ++ kinds) (append-nil (kinds_of table.schema))

-- the kinds of all tables are those of the tables before one, its own, and those of the tables after it
kinds_around : (before : List From1) (table : From1) (after : List From1) → table_kinds (before ++ table ∷ after) ≡ table_kinds before ++ (kinds_of table.schema ++ table_kinds after)
kinds_around before table after = flat_map-append (λ table. kinds_of table.schema) before (table ∷ after)

-- the join of the tree of the tables before one with its leaf has their kinds and its own
join_has : (parts : List Cond) (before : List From1) (table : From1) (after : List From1) (tree : Plan) → HasKinds (table_kinds before) tree
    → HasKinds (table_kinds (before ++ table ∷ []))
    (joined_by (table_kinds (before ++ table ∷ after)) (length (table_kinds before)) tree
    (leaf_of (widths_of (before ++ table ∷ after)) parts (length before) (length (table_kinds before)) table)
    (parts_at (widths_of (before ++ table ∷ after)) (Join (length before)) parts))
join_has parts before table after tree has =
    let widths = widths_of (before ++ table ∷ after) in
    let start = length (table_kinds before) in
    let leaf = leaf_of widths parts (length before) start table in
    let here = parts_at widths (Join (length before)) parts in
    subst (λ kinds. HasKinds kinds (joined_by (table_kinds (before ++ table ∷ after)) start tree leaf here)) (sym (kinds_after before table))
    (joined_by_has (table_kinds before) (kinds_of table.schema) tree leaf has (leaf_has widths parts (length before) start table) (table_kinds (before ++ table ∷ after)) start here
    (subst (λ kinds. list_all (is_key_pair (Some (table_kinds before)) (Some (kinds_of table.schema))) (flat_map (λ part. listed (key_of kinds start part)) here) ≡ true)
    (sym (kinds_around before table after))
    (parts_are_keys (table_kinds before) (kinds_of table.schema) (table_kinds after) here
    (subst (λ n. AllByRecursion (λ part. AllByRecursion (λ place. place < n) (places_of part)) here)
    (ap length (kinds_after before table) ∙ length-append (table_kinds before) (kinds_of table.schema))
    (subst (λ tables. AllByRecursion (λ part. AllByRecursion (λ place. place < length (table_kinds (before ++ table ∷ []))) (places_of part)) (parts_at (widths_of tables) (Join (length before)) parts))
    (append_assoc before (table ∷ []) after)
    (parts_within (before ++ table ∷ []) after (length before) parts (length-append before (table ∷ []) ∙ add-one (length before))))))))

-- the tree of the tables before some, joined with those, has the kinds of all
joined_from_has : (parts : List Cond) (all before tables : List From1) (k start : ℕ) (tree : Plan) → before ++ tables ≡ all → length before ≡ k → length (table_kinds before) ≡ start
    → HasKinds (table_kinds before) tree → HasKinds (table_kinds all) (joined_from (table_kinds all) (widths_of all) parts k start tree tables)
joined_from_has parts all before [] k start tree is is_k is_start has = subst (λ tables. HasKinds (table_kinds tables) tree) (sym (append-nil before) ∙ is) has
joined_from_has parts all before (table ∷ tables) k start tree is is_k is_start has =
    let joined = λ (all : List From1) (k start : ℕ). joined_by (table_kinds all) start tree (leaf_of (widths_of all) parts k start table) (parts_at (widths_of all) (Join k) parts) in
    joined_from_has parts all (before ++ table ∷ []) tables (suc k) (start + length table.schema) (joined all k start)
    (append_assoc before (table ∷ []) tables ∙ is)
    (length-append before (table ∷ []) ∙ add-one (length before) ∙ ap suc is_k)
    (ap length (kinds_after before table) ∙ length-append (table_kinds before) (kinds_of table.schema) ∙ (λ i. is_start i + length-map table.schema (λ column. column.kind) i))
    ((λ i. fold-Plan (Option (List Kind) × Bool) shape_step (joined (sym is i) (sym is_k i) (sym is_start i))) ∙ join_has parts before table tables tree has)

-- the tree of all tables has their kinds
tree_has : (parts : List Cond) (tables : List From1) → 1 ≤ length tables → HasKinds (table_kinds tables) (tree_of (table_kinds tables) (widths_of tables) parts tables)
tree_has parts [] some = absurd (omega (arith, some))
tree_has parts (table ∷ tables) some =
    let leaf = leaf_of (widths_of (table ∷ tables)) parts 0 0 table in
    joined_from_has parts (table ∷ tables) (table ∷ []) tables 1 (length table.schema) leaf refl refl
    (ap length (append-nil (kinds_of table.schema)) ∙ length-map table.schema (λ column. column.kind))
    (subst (λ kinds. HasKinds kinds leaf) (sym (append-nil (kinds_of table.schema))) (leaf_has (widths_of (table ∷ tables)) parts 0 0 table))

-- a tree that is made well is so under its semis
semis_are_sound : (semis : List PlanSemi) (shape : Option (List Kind) × Bool) → (over_semis shape_step shape semis).1 ≡ shape.1
semis_are_sound [] shape = refl
semis_are_sound (semi ∷ semis) shape = refl

-- the plan of a core is made well
core_is_sound : (core : Core) → 1 ≤ length core.tables → fold-Plan (Option (List Kind) × Bool) shape_step (core_plan core) ≡ (None, true)
core_is_sound core some =
    fold-core_plan shape_step core (Some (core_kinds core), true) (tree_has (parts_of core.cond) core.tables some)
    ∙ ap (λ well. (None, well)) (semis_are_sound (map semi_plan core.semis) (Some (core_kinds core), true))

-- a plan that is made well is so combined with those of further cores
rests_are_sound : (rests : List Rest) (shape : Option (List Kind) × Bool) → shape.1 ≡ true
    → (fold (λ shape rest. shape_step (o.Combine rest.op shape (None, true))) shape rests).1 ≡ true
rests_are_sound [] shape well = well
rests_are_sound (rest ∷ rests) shape well = rests_are_sound rests (None, shape.1 && true) (ap (λ b. b && true) well)

-- the plan of a query is made well
pub plan_is_sound : (query : Query) → HaveTables query → is_sound (plan_of query) ≡ true
plan_is_sound query have = ap (λ shape. shape.1) (fold-plan_of shape_step (λ core. (None, true)) core_is_sound query have) ∙ rests_are_sound query.rest (None, true) refl

-- a fold that appends what it makes of each is what was there before, and then what it makes of all
appended : {X A : Type 0} (f : X → List A) (xs : List X) (before : List A) → fold (λ all x. all ++ f x) before xs ≡ before ++ flat_map f xs
appended f [] before = sym (append-nil before)
appended f (x ∷ xs) before = appended f xs (before ++ f x) ∙ append_assoc before (f x) (flat_map f xs)

-- and where it makes one of each, all mapped
one_of_each : {X A : Type 0} (f : X → A) (xs : List X) (before : List A) → fold (λ all x. all ++ f x ∷ []) before xs ≡ before ++ map f xs
one_of_each f xs before = appended (λ x. f x ∷ []) xs before ∙ ap (λ ys. before ++ ys) (flat_map_single f xs)

-- the tables of a tree
tree_scans : (kinds : List Kind) (widths : List ℕ) (parts : List Cond) (tables : List From1) → 1 ≤ length tables → scans_of (tree_of kinds widths parts tables) ≡ map named_columns tables
tree_scans kinds widths parts [] some = absurd (omega (arith, some))
tree_scans kinds widths parts (table ∷ tables) some =
    fold-tree_of scans_step (λ input parts. refl) (λ left right pairs rest. refl) (λ left right pair rest. refl) kinds widths parts table tables
    ∙ one_of_each named_columns tables (named_columns table ∷ [])

-- the tables of a tree under semis: those of the tree, and then those of the semis
semis_scans : (semis : List Semi) (tables : List (List ℕ × List Column)) → over_semis scans_step tables (map semi_plan semis) ≡ tables ++ map (λ semi. named_columns semi.table) semis
semis_scans [] tables = sym (append-nil tables)
semis_scans (semi ∷ semis) tables = ap (λ more. tables ++ named_columns semi.table ∷ more) (their_tables semis)
  where
    their_tables : (semis : List Semi) → map (λ semi. named_columns semi.table) (map semi_plan semis) ≡ map (λ semi. named_columns semi.table) semis
    their_tables [] = refl
    their_tables (semi ∷ semis) = ap (λ more. named_columns semi.table ∷ more) (their_tables semis)

-- the tables of a core's plan
core_scans : (core : Core) → 1 ≤ length core.tables → scans_of (core_plan core) ≡ core_tables core
core_scans core some =
    fold-core_plan scans_step core (map named_columns core.tables) (tree_scans (core_kinds core) (widths_of core.tables) (parts_of core.cond) core.tables some)
    ∙ semis_scans core.semis (map named_columns core.tables)

-- the tables of a plan are those of its query
pub plan_scans : (query : Query) → HaveTables query → scans_of (plan_of query) ≡ query_tables query
plan_scans query have = fold-plan_of scans_step core_tables core_scans query have ∙ appended (λ rest. core_tables rest.core) query.rest (core_tables query.first)
