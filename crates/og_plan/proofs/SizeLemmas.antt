-- The plan of a query has the size of the query.
use Rattle.std.proofs.Common.{◌≡◌, ◌*◌, ◌≤◌, ℕ, List, [], ◌∷◌, fold, length, map, refl, ap, sym, ◌∙◌, arith}
use Rattle.og_query.specs.Fits.{core_kinds}
use Rattle.og_query.specs.Sizes.{Sizes, core_size, query_size}
use Rattle.og_query.specs.declared.condition.Cond.{Cond}
use Rattle.og_query.specs.declared.query.Core.{Core}
use Rattle.og_query.specs.declared.query.From1.{From1}
use Rattle.og_query.specs.declared.query.Query.{Query}
use Rattle.og_value.specs.declared.kind.Kind.{Kind}
use Rattle.og_plan.specs.Parts.{parts_of}
use Rattle.og_plan.specs.PlanOf.{widths_of, tree_of, semi_plan, core_plan, plan_of, HaveTables}
use Rattle.og_plan.specs.Sizes.{node_size, plan_size}
use Rattle.og_plan.specs.declared.plan.PlanSemi.{PlanSemi}
use Rattle.og_plan.proofs.PlanFolds.{over_semis, fold-tree_of, fold-core_plan, fold-plan_of}

module _ (sizes : Sizes) where
  -- the size of a tree is the product of those of its tables
  tree_keeps_size : (kinds : List Kind) (widths : List ℕ) (parts : List Cond) (tables : List From1) → 1 ≤ length tables
      → plan_size sizes (tree_of kinds widths parts tables) ≡ fold (λ size table. size * sizes table.name) 1 tables
  tree_keeps_size kinds widths parts [] some = absurd (omega (arith, some))
  tree_keeps_size kinds widths parts (table ∷ tables) some =
      fold-tree_of (node_size sizes) (λ input parts. refl) (λ left right pairs rest. refl) (λ left right pair rest. refl) kinds widths parts table tables
      ∙ ap (λ size. fold (λ size table. size * sizes table.name) size tables) (sym (one_times (sizes table.name)))
    where
      one_times : (n : ℕ) → 1 * n ≡ n
      one_times n = omega arith

  -- semis keep the size
  semis_keep_size : (semis : List PlanSemi) (size : ℕ) → over_semis (node_size sizes) size semis ≡ size
  semis_keep_size [] size = refl
  semis_keep_size (semi ∷ semis) size = refl

  -- the size of a core's plan is that of the core
  core_plan_keeps_size : (core : Core) → 1 ≤ length core.tables → plan_size sizes (core_plan core) ≡ core_size sizes core
  core_plan_keeps_size core some =
      fold-core_plan (node_size sizes) core (core_size sizes core) (tree_keeps_size (core_kinds core) (widths_of core.tables) (parts_of core.cond) core.tables some)
      ∙ semis_keep_size (map semi_plan core.semis) (core_size sizes core)

-- the size of a plan is that of its query
pub plan_keeps_size : (sizes : Sizes) (query : Query) → HaveTables query → plan_size sizes (plan_of query) ≡ query_size sizes query
plan_keeps_size sizes query = fold-plan_of (node_size sizes) (core_size sizes) (core_plan_keeps_size sizes) query
