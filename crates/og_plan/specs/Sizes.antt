-- The size of a plan: how many rows it has at most, where each name has so many.
use Rattle.std.specs.Prelude.{◌*◌, ℕ}
use Rattle.og_query.specs.Sizes.{Sizes, combined_size}
use Rattle.og_plan.specs.declared.plan.Plan.{Plan, fold-Plan}
use Rattle.og_plan.specs.declared.plan.Plan.TheOpen.{Plan-F, Scan, Filter, Product, KeyJoin, OverlapJoin, Project, Combine, Semis}

-- one node, with the sizes of its inputs in their place: products and joins multiply, UNION adds
abbrev pub node_size : Sizes → Plan-F ℕ → ℕ
node_size sizes (Scan name schema) = sizes name
node_size sizes (Filter input parts) = input
node_size sizes (Product left right) = left * right
node_size sizes (KeyJoin left right pairs rest) = left * right
node_size sizes (OverlapJoin left right pair rest) = left * right
node_size sizes (Project input items) = input
node_size sizes (Combine op left right) = combined_size op left right
node_size sizes (Semis input semis) = input

-- size of a plan
abbrev pub plan_size : Sizes → Plan → ℕ
plan_size sizes = fold-Plan ℕ (node_size sizes)
