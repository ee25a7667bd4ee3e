-- Folds over the plan of a query, where joins and filters are alike to the fold.
use Rattle.std.proofs.Common.{◌≡◌, ◌+◌, ◌≤◌, ℕ, suc, not, List, [], ◌∷◌, map, filter, fold, length, refl, ap, ◌∙◌}
use Rattle.std.specs.List.{All, flat_map}
use Rattle.std.specs.Option.{is_some}
use Rattle.std.proofs.lemmas.List.Elements.{All-head, All-tail}
use Rattle.og_value.specs.declared.kind.Kind.{Kind}
use Rattle.og_query.specs.Fits.{core_kinds}
use Rattle.og_query.specs.declared.condition.Cond.{Cond}
use Rattle.og_query.specs.declared.query.Core.{Core}
use Rattle.og_query.specs.declared.query.From1.{From1}
use Rattle.og_query.specs.declared.query.Query.{Query}
use Rattle.og_query.specs.declared.query.Rest.{Rest}
use Rattle.og_plan.specs.Homes.{parts_at}
use Rattle.og_plan.specs.Joins.{filtered, overlap_joined, key_joined, joined_by, listed, key_of, overlap_of}
use Rattle.og_plan.specs.Parts.{parts_of, cond_from}
use Rattle.og_plan.specs.PlanOf.{widths_of, leaf_of, joined_from, tree_of, semi_plan, sifted, core_plan, plan_of, HaveTables}
use Rattle.og_plan.specs.declared.plan.ColPair.{ColPair}
use Rattle.og_plan.specs.declared.plan.Home.TheVariants.{Leaf, Join}
use Rattle.og_plan.specs.declared.plan.Plan.{Plan, fold-Plan}
use Rattle.og_plan.specs.declared.plan.Plan.TheVariants.{Scan, Product, Combine}
use Rattle.og_plan.specs.declared.plan.Plan.TheOpen as o
use Rattle.og_plan.specs.declared.plan.PlanSemi.{PlanSemi}
use Rattle.og_plan.proofs.PlanEquations.{fold-Scan, fold-Filter, fold-Product, fold-KeyJoin, fold-OverlapJoin, fold-Project, fold-Combine, fold-Semis}

-- a fold over plans
module _ {A : Type 0} (step : o.Plan-F A → A) where
  -- of a tree under semis, from what it makes of the tree
  abbrev pub over_semis : A → List PlanSemi → A
  over_semis a [] = a
  over_semis a (semi ∷ semis) = step (o.Semis a (semi ∷ semis))

  fold-sifted : (tree : Plan) (semis : List PlanSemi) → fold-Plan A step (sifted tree semis) ≡ over_semis (fold-Plan A step tree) semis
  fold-sifted tree [] = refl
  fold-sifted tree (semi ∷ semis) = fold-Semis step tree (semi ∷ semis)

  -- of a core: of its semis over what it makes of the tree
  pub fold-core_plan : (core : Core) (of_tree : A) → fold-Plan A step (tree_of (core_kinds core) (widths_of core.tables) (parts_of core.cond) core.tables) ≡ of_tree
      → fold-Plan A step (core_plan core) ≡ step (o.Project (over_semis of_tree (map semi_plan core.semis)) core.items)
  fold-core_plan core of_tree is =
      let tree = tree_of (core_kinds core) (widths_of core.tables) (parts_of core.cond) core.tables in
      let semis = map semi_plan core.semis in
      fold-Project step (sifted tree semis) core.items
      ∙ ap (λ a. step (o.Project a core.items)) (fold-sifted tree semis ∙ ap (λ a. over_semis a semis) is)

  -- of a plan combined with those of further cores, where what it makes of each core that has a table is known
  module _ (of_core : Core → A) (each : (core : Core) → 1 ≤ length core.tables → fold-Plan A step (core_plan core) ≡ of_core core) where
    fold-rests : (rests : List Rest) (plan : Plan) (a : A) → All (λ rest. 1 ≤ length rest.core.tables) rests → fold-Plan A step plan ≡ a
        → fold-Plan A step (fold (λ left rest. Combine rest.op left (core_plan rest.core)) plan rests)
        ≡ fold (λ a rest. step (o.Combine rest.op a (of_core rest.core))) a rests
    fold-rests [] plan a have is = is
    fold-rests (rest ∷ rests) plan a have is =
        fold-rests rests (Combine rest.op plan (core_plan rest.core)) (step (o.Combine rest.op a (of_core rest.core)))
        (All-tail (λ rest. 1 ≤ length rest.core.tables) rest rests have)
        (fold-Combine step rest.op plan (core_plan rest.core)
        ∙ (λ i. step (o.Combine rest.op (is i) (each rest.core (All-head (λ rest. 1 ≤ length rest.core.tables) rest rests have) i))))

    -- of the plan of a query
    pub fold-plan_of : (query : Query) → HaveTables query
        → fold-Plan A step (plan_of query) ≡ fold (λ a rest. step (o.Combine rest.op a (of_core rest.core))) (of_core query.first) query.rest
    fold-plan_of query have = fold-rests query.rest (core_plan query.first) (of_core query.first) have.1 (each query.first have.0)

-- a fold that keeps what it makes of the input of a filter, and takes each join for a product
module _ {A : Type 0} (step : o.Plan-F A → A)
    (keeps : (input : A) (parts : List Cond) → step (o.Filter input parts) ≡ input)
    (keyed : (left right : A) (pairs : List ColPair) (rest : List Cond) → step (o.KeyJoin left right pairs rest) ≡ step (o.Product left right))
    (overlaps : (left right : A) (pair : ColPair) (rest : List Cond) → step (o.OverlapJoin left right pair rest) ≡ step (o.Product left right)) where
  -- of an input under the parts as a filter
  fold-filtered : (input : Plan) (parts : List Cond) → fold-Plan A step (filtered input parts) ≡ fold-Plan A step input
  fold-filtered input [] = refl
  fold-filtered input (part ∷ parts) = fold-Filter step input (part ∷ parts) ∙ keeps (fold-Plan A step input) (part ∷ parts)

  -- of a leaf
  fold-leaf_of : (widths : List ℕ) (parts : List Cond) (k start : ℕ) (table : From1) → fold-Plan A step (leaf_of widths parts k start table) ≡ step (o.Scan table.name table.schema)
  fold-leaf_of widths parts k start table =
      fold-filtered (Scan table.name table.schema) (map (cond_from start) (parts_at widths (Leaf k) parts)) ∙ fold-Scan step table.name table.schema

  -- of a join without keys
  fold-overlap_joined : (left right : Plan) (pairs : List ColPair) (parts : List Cond)
      → fold-Plan A step (overlap_joined left right pairs parts) ≡ step (o.Product (fold-Plan A step left) (fold-Plan A step right))
  fold-overlap_joined left right [] parts = fold-filtered (Product left right) parts ∙ fold-Product step left right
  fold-overlap_joined left right (pair ∷ pairs) parts =
      fold-OverlapJoin step left right pair parts ∙ overlaps (fold-Plan A step left) (fold-Plan A step right) pair parts

  -- of a join on keys, where there are any, as of the other join
  fold-key_joined : (left right : Plan) (pairs : List ColPair) (rest : List Cond) (other : Plan)
      → fold-Plan A step other ≡ step (o.Product (fold-Plan A step left) (fold-Plan A step right))
      → fold-Plan A step (key_joined left right pairs rest other) ≡ step (o.Product (fold-Plan A step left) (fold-Plan A step right))
  fold-key_joined left right [] rest other is = is
  fold-key_joined left right (pair ∷ pairs) rest other is =
      fold-KeyJoin step left right (pair ∷ pairs) rest ∙ keyed (fold-Plan A step left) (fold-Plan A step right) (pair ∷ pairs) rest

  -- of a join
  fold-joined_by : (kinds : List Kind) (start : ℕ) (left right : Plan) (parts : List Cond)
      → fold-Plan A step (joined_by kinds start left right parts) ≡ step (o.Product (fold-Plan A step left) (fold-Plan A step right))
  fold-joined_by kinds start left right parts =
      let overlapping = flat_map (λ part. listed (overlap_of start part)) parts in
      fold-key_joined left right (flat_map (λ part. listed (key_of kinds start part)) parts) (filter (λ part. not (is_some (key_of kinds start part))) parts)
      (overlap_joined left right overlapping parts) (fold-overlap_joined left right overlapping parts)

  -- of a tree joined with the leaves of further items
  fold-joined_from : (kinds : List Kind) (widths : List ℕ) (parts : List Cond) (k start : ℕ) (tree : Plan) (a : A) (tables : List From1) → fold-Plan A step tree ≡ a
      → fold-Plan A step (joined_from kinds widths parts k start tree tables) ≡ fold (λ a table. step (o.Product a (step (o.Scan table.name table.schema)))) a tables
  fold-joined_from kinds widths parts k start tree a [] is = is
  fold-joined_from kinds widths parts k start tree a (table ∷ tables) is =
      let leaf = leaf_of widths parts k start table in
      let here = parts_at widths (Join k) parts in
      fold-joined_from kinds widths parts (suc k) (start + length table.schema) (joined_by kinds start tree leaf here) (step (o.Product a (step (o.Scan table.name table.schema)))) tables
      (fold-joined_by kinds start tree leaf here ∙ (λ i. step (o.Product (is i) (fold-leaf_of widths parts k start table i))))

  -- of the tree of items of which there is one
  pub fold-tree_of : (kinds : List Kind) (widths : List ℕ) (parts : List Cond) (table : From1) (tables : List From1)
      → fold-Plan A step (tree_of kinds widths parts (table ∷ tables))
      ≡ fold (λ a table. step (o.Product a (step (o.Scan table.name table.schema)))) (step (o.Scan table.name table.schema)) tables
  fold-tree_of kinds widths parts table tables =
      fold-joined_from kinds widths parts 1 (length table.schema) (leaf_of widths parts 0 0 table) (step (o.Scan table.name table.schema)) tables (fold-leaf_of widths parts 0 0 table)
