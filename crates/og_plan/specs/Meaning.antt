-- The meaning of a plan: the rows that it has on one day, over named sets of rows of that day.
use Rattle.std.specs.Prelude.{◌&&◌, ◌++◌, ℕ, ℤ, Bool, true, not, List, map, filter, slice_index_or, if◌then◌else◌}
use Rattle.std.specs.List.{list_all, list_any, flat_map}
use Rattle.og_base.specs.Set.{set_of}
use Rattle.og_value.specs.Order.{row_order}
use Rattle.og_value.specs.declared.term.Cmp.TheVariants as cmp
use Rattle.og_value.specs.declared.term.Pred.TheVariants as pred
use Rattle.og_value.specs.declared.value.FixedValue.{FixedValue}
use Rattle.og_query.specs.Conditions.{compares, relates, truth}
use Rattle.og_query.specs.Expressions.{no_value}
use Rattle.og_query.specs.Queries.{Fixed, Named, image, combined}
use Rattle.og_query.specs.declared.condition.Cond.{Cond}
use Rattle.og_plan.specs.declared.plan.ColPair.{ColPair}
use Rattle.og_plan.specs.declared.plan.Plan.{Plan, fold-Plan}
use Rattle.og_plan.specs.declared.plan.Plan.TheOpen.{Plan-F, Scan, Filter, Product, KeyJoin, OverlapJoin, Project, Combine, Semis}
use Rattle.og_plan.specs.declared.plan.PlanSemi.{PlanSemi}

-- all of the parts hold of the row
abbrev pub all_hold : ℤ → List Cond → Fixed → Bool
all_hold d parts row = list_all (truth d row) parts

-- the set of the combinations of a left and a right row that meet, each joined to one row
abbrev pub matches : (Fixed → Fixed → Bool) → List Fixed → List Fixed → List Fixed
matches meets lefts rights = set_of row_order (flat_map (λ left. map (λ right. left ++ right) (filter (meets left) rights)) lefts)

-- the value in a column of a row
abbrev pub column : Fixed → ℕ → FixedValue
column row place = slice_index_or row place no_value

-- the two columns are equal
abbrev pub are_equal : Fixed → Fixed → ColPair → Bool
are_equal left right pair = compares cmp.Eq (column left pair.left) (column right pair.right)

-- the two columns are periods that overlap
abbrev pub do_overlap : Fixed → Fixed → ColPair → Bool
do_overlap left right pair = relates pred.Overlaps (column left pair.left) (column right pair.right)

-- some row of the table, joined after the row, makes all of the parts true
abbrev pub has_partner : ℤ → Named → List ℕ → List Cond → Fixed → Bool
has_partner d rows name parts row = list_any (λ other. all_hold d parts (row ++ other)) (rows name)

-- a row meets a positive semi where it has a partner, and a negative one where it has none
abbrev pub meets_semi : ℤ → Named → Fixed → PlanSemi → Bool
meets_semi d rows row semi = if semi.positive then has_partner d rows semi.table.name semi.parts row else not (has_partner d rows semi.table.name semi.parts row)

-- one node, with the rows of its inputs in their place
abbrev pub node_rows : ℤ → Named → Plan-F (List Fixed) → List Fixed
node_rows d rows (Scan name schema) = rows name
node_rows d rows (Filter input parts) = filter (all_hold d parts) input
node_rows d rows (Product left right) = matches (λ l r. true) left right
node_rows d rows (KeyJoin left right pairs rest) = matches (λ l r. list_all (are_equal l r) pairs && all_hold d rest (l ++ r)) left right
node_rows d rows (OverlapJoin left right pair rest) = matches (λ l r. do_overlap l r pair && all_hold d rest (l ++ r)) left right
node_rows d rows (Project input items) = set_of row_order (map (image d items) input)
node_rows d rows (Combine op left right) = combined op left right
node_rows d rows (Semis input semis) = filter (λ row. list_all (meets_semi d rows row) semis) input

-- meaning of a plan
abbrev pub plan_rows : ℤ → Named → Plan → List Fixed
plan_rows d rows = fold-Plan (List Fixed) (node_rows d rows)
