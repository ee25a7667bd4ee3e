-- Ordinary query: the rows that a query has on one day, over named sets of rows of that day.
use Rattle.std.specs.Prelude.{ℕ, ℤ, Bool, not, ◌&&◌, List, ◌++◌, map, filter, fold, if◌then◌else◌}
use Rattle.std.specs.List.{list_all, list_any}
use Rattle.og_base.specs.Set.{set_of}
use Rattle.og_value.specs.Order.{row_order}
use Rattle.og_value.specs.declared.term.SetOp.{SetOp}
use Rattle.og_value.specs.declared.term.SetOp.TheVariants as op
use Rattle.og_value.specs.declared.value.FixedValue.{FixedValue}
use Rattle.og_rel.specs.Algebra.{union, except, intersect}
use Rattle.og_query.specs.Combinations.{combinations}
use Rattle.og_query.specs.Expressions.{meaning}
use Rattle.og_query.specs.Conditions.{truth}
use Rattle.og_query.specs.declared.expression.Expr.{Expr}
use Rattle.og_query.specs.declared.query.Semi.{Semi}
use Rattle.og_query.specs.declared.query.Core.{Core}
use Rattle.og_query.specs.declared.query.Query.{Query}

-- a row of one day
abbrev pub Fixed : Type 0
Fixed = List FixedValue

-- the rows of each name on one day
abbrev pub Named : Type 0
Named = List ℕ → List Fixed

-- the values of the items on a row
abbrev pub image : ℤ → List Expr → Fixed → Fixed
image d items row = map (meaning d row) items

-- some row of the semi's table, joined after the row, makes its condition true
abbrev pub has_match : ℤ → Named → Fixed → Semi → Bool
has_match d rows row semi = list_any (λ other. truth d (row ++ other) semi.cond) (rows semi.table.name)

-- a row meets a positive semi where it has a match, and a negative one where it has none
abbrev pub meets : ℤ → Named → Fixed → Semi → Bool
meets d rows row semi = if semi.positive then has_match d rows row semi else not (has_match d rows row semi)

-- the condition holds of the row, and it meets each semi
abbrev pub is_kept : ℤ → Named → Core → Fixed → Bool
is_kept d rows core row = truth d row core.cond && list_all (meets d rows row) core.semis

-- a core: of all combinations of a row from each table those that are kept, mapped to the items, as a set
abbrev pub core_rows : ℤ → Named → Core → List Fixed
core_rows d rows core =
    set_of row_order (map (image d core.items) (filter (is_kept d rows core) (combinations (map (λ table. rows table.name) core.tables))))

-- two answers, combined by an operator
abbrev pub combined : SetOp → List Fixed → List Fixed → List Fixed
combined op.Union = union row_order
combined op.Except = except row_order
combined op.Intersect = intersect row_order

-- ordinary query: the cores, combined from the left
abbrev pub ordinary_query : ℤ → Named → Query → List Fixed
ordinary_query d rows query = fold (λ answer rest. combined rest.op answer (core_rows d rows rest.core)) (core_rows d rows query.first) query.rest
