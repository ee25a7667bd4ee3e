-- The plan of a query: a function of its text alone.
use Rattle.std.specs.Prelude.{◌+◌, ◌≤◌, ℕ, suc, List, [], ◌∷◌, map, length, fold}
use Rattle.std.specs.List.{All}
use Rattle.og_value.specs.declared.kind.Kind.{Kind}
use Rattle.og_query.specs.Fits.{core_kinds}
use Rattle.og_query.specs.declared.condition.Cond.{Cond}
use Rattle.og_query.specs.declared.query.From1.{From1}
use Rattle.og_query.specs.declared.query.Core.{Core}
use Rattle.og_query.specs.declared.query.Query.{Query}
use Rattle.og_query.specs.declared.query.Semi.{Semi}
use Rattle.og_plan.specs.declared.plan.Home.TheVariants.{Leaf, Join}
use Rattle.og_plan.specs.declared.plan.Plan.{Plan}
use Rattle.og_plan.specs.declared.plan.Plan.TheVariants as p
use Rattle.og_plan.specs.declared.plan.PlanSemi.{PlanSemi}
use Rattle.og_plan.specs.Homes.{parts_at}
use Rattle.og_plan.specs.Joins.{filtered, joined_by}
use Rattle.og_plan.specs.Parts.{parts_of, cond_from}

-- how many columns each table has
abbrev pub widths_of : List From1 → List ℕ
widths_of tables = map (λ table. length table.schema) tables

-- leaf k: the scan of a table whose columns begin at that place, under one filter with its parts
abbrev pub leaf_of : List ℕ → List Cond → ℕ → ℕ → From1 → Plan
leaf_of widths parts k start table = filtered (p.Scan table.name table.schema) (map (cond_from start) (parts_at widths (Leaf k) parts))

-- the tree of the items before item k, joined with leaf k, and so with each further item
abbrev pub joined_from : List Kind → List ℕ → List Cond → ℕ → ℕ → Plan → List From1 → Plan
joined_from kinds widths parts k start tree [] = tree
joined_from kinds widths parts k start tree (table ∷ tables) =
    joined_from kinds widths parts (suc k) (start + length table.schema)
    (joined_by kinds start tree (leaf_of widths parts k start table) (parts_at widths (Join k) parts)) tables

-- the tree of all items; a core has at least one
abbrev pub tree_of : List Kind → List ℕ → List Cond → List From1 → Plan
tree_of kinds widths parts [] = p.Scan [] []
tree_of kinds widths parts (table ∷ tables) = joined_from kinds widths parts 1 (length table.schema) (leaf_of widths parts 0 0 table) tables

-- a semi, with the parts of its condition
abbrev pub semi_plan : Semi → PlanSemi
semi_plan semi = record { positive = semi.positive; table = semi.table; parts = parts_of semi.cond }

-- a tree under one node with the semis, where there are any
abbrev pub sifted : Plan → List PlanSemi → Plan
sifted tree [] = tree
sifted tree (semi ∷ semis) = p.Semis tree (semi ∷ semis)

-- a core: its tree, under one node with its semis, under the projection to its items
abbrev pub core_plan : Core → Plan
core_plan core =
    p.Project (sifted (tree_of (core_kinds core) (widths_of core.tables) (parts_of core.cond) core.tables) (map semi_plan core.semis)) core.items

-- the plan of a query: those of its cores, combined from the left
abbrev pub plan_of : Query → Plan
plan_of query = fold (λ left rest. p.Combine rest.op left (core_plan rest.core)) (core_plan query.first) query.rest

-- each core has a table
abbrev pub HaveTables : Query → Type 0
HaveTables query = (1 ≤ length query.first.tables) × All (λ rest. 1 ≤ length rest.core.tables) query.rest
