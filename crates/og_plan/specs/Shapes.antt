-- What a plan takes for granted of its inputs, and which tables it names.
use Rattle.std.specs.Prelude.{◌&&◌, ◌++◌, ℕ, Bool, true, false, List, [], ◌∷◌, Option, Some, None, map, slice_get}
use Rattle.std.specs.List.{list_all}
use Rattle.std.specs.Option.{is_some}
use Rattle.og_value.specs.declared.kind.Kind.{Kind}
use Rattle.og_value.specs.declared.schema.Column.{Column}
use Rattle.og_query.specs.Kinds.{kinds_of}
use Rattle.og_plan.specs.Joins.{are_key_kinds}
use Rattle.og_plan.specs.Premises.{named_columns}
use Rattle.og_plan.specs.declared.plan.ColPair.{ColPair}
use Rattle.og_plan.specs.declared.plan.Plan.{Plan, fold-Plan}
use Rattle.og_plan.specs.declared.plan.Plan.TheOpen.{Plan-F, Scan, Filter, Product, KeyJoin, OverlapJoin, Project, Combine, Semis}

-- the kinds of the rows of two inputs, where both have some
abbrev pub both_kinds : Option (List Kind) → Option (List Kind) → Option (List Kind)
both_kinds (Some left) (Some right) = Some (left ++ right)
both_kinds _ _ = None

-- both columns of the pair are INT, or both are TEXT
abbrev pub is_key_pair : Option (List Kind) → Option (List Kind) → ColPair → Bool
is_key_pair (Some left) (Some right) pair = are_key_kinds (slice_get left pair.left) (slice_get right pair.right)
is_key_pair _ _ pair = false

-- the kinds of both inputs are known, and both are made well
abbrev pub are_sound : Option (List Kind) × Bool → Option (List Kind) × Bool → Bool
are_sound left right = is_some left.0 && is_some right.0 && left.1 && right.1

-- one node, with the shapes of its inputs in their place: the kinds of its rows, where it is made of scans, filters, products and joins alone, and whether it is made well
abbrev pub shape_step : Plan-F (Option (List Kind) × Bool) → Option (List Kind) × Bool
shape_step (Scan name schema) = (Some (kinds_of schema), true)
shape_step (Filter input parts) = (input.0, is_some input.0 && input.1)
shape_step (Product left right) = (both_kinds left.0 right.0, are_sound left right)
shape_step (KeyJoin left right pairs rest) = (both_kinds left.0 right.0, are_sound left right && list_all (is_key_pair left.0 right.0) pairs)
shape_step (OverlapJoin left right pair rest) = (both_kinds left.0 right.0, are_sound left right)
shape_step (Project input items) = (None, input.1)
shape_step (Combine op left right) = (None, left.1 && right.1)
shape_step (Semis input semis) = (None, input.1)

-- the kinds of the rows of a plan, where it is made of scans, filters, products and joins alone
abbrev pub plan_kinds : Plan → Option (List Kind)
plan_kinds plan = (fold-Plan (Option (List Kind) × Bool) shape_step plan).0

-- under each filter, product and join stand scans, filters, products and joins alone, and each pair of keys is of two columns that are both INT or both TEXT
abbrev pub is_sound : Plan → Bool
is_sound plan = (fold-Plan (Option (List Kind) × Bool) shape_step plan).1

-- the names of one node and the columns that they have, with those of its inputs in their place
abbrev pub scans_step : Plan-F (List (List ℕ × List Column)) → List (List ℕ × List Column)
scans_step (Scan name schema) = (name, schema) ∷ []
scans_step (Filter input parts) = input
scans_step (Product left right) = left ++ right
scans_step (KeyJoin left right pairs rest) = left ++ right
scans_step (OverlapJoin left right pair rest) = left ++ right
scans_step (Project input items) = input
scans_step (Combine op left right) = left ++ right
scans_step (Semis input semis) = input ++ map (λ semi. named_columns semi.table) semis

-- the names of a plan and the columns that they have
abbrev pub scans_of : Plan → List (List ℕ × List Column)
scans_of = fold-Plan (List (List ℕ × List Column)) scans_step
