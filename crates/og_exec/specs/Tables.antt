-- The tables that a plan is executed over.
use Rattle.std.specs.Prelude.{◌≡◌, ℕ, ℤ, List, [], Option, Some, None, length}
use Rattle.std.specs.List.{All}
use Rattle.og_base.specs.Ranges.{Range}
use Rattle.og_rel.specs.Relations.{relation_at}
use Rattle.og_value.specs.Order.{row_order}
use Rattle.og_value.specs.Values.{row_at}
use Rattle.og_value.specs.declared.schema.Column.{Column}
use Rattle.og_value.specs.declared.value.Value.{Value}
use Rattle.og_query.specs.Fits.{IsFitRow}
use Rattle.og_query.specs.Queries.{Fixed, Named}
use Rattle.og_query.specs.Sizes.{Sizes}

-- a relation: rows with the ranges of their days
abbrev pub Relation : Type 0
Relation = List (List Value × List Range)

-- the relation of each name that is known
abbrev pub Relations : Type 0
Relations = List ℕ → Option Relation

-- a relation at a day: the set of its rows of that day
abbrev pub rows_on : Relation → ℤ → List Fixed
rows_on rel d = relation_at row_order row_at rel d

-- the rows of a relation at a day, none where there is no relation
abbrev pub rows_or_none : Option Relation → ℤ → List Fixed
rows_or_none (Some rel) d = rows_on rel d
rows_or_none None d = []

-- the rows of each name at a day, none of an unknown one
abbrev pub rows_at : Relations → ℤ → Named
rows_at named d name = rows_or_none (named name) d

-- how many rows a relation has, 0 where there is none
abbrev pub size_or_none : Option Relation → ℕ
size_or_none (Some rel) = length rel
size_or_none None = 0

-- how many rows each name has, 0 of an unknown one
abbrev pub sizes_of : Relations → Sizes
sizes_of named name = size_or_none (named name)

-- the name has a relation, and each of its rows fits the columns
abbrev pub IsThere : Relations → List ℕ × List Column → Type 0
IsThere named scan = (rel : Relation) × (named scan.0 ≡ Some rel) × All (λ p. IsFitRow scan.1 p.0) rel

-- each name has a relation, and each of its rows fits the columns
abbrev pub AreThere : Relations → List (List ℕ × List Column) → Type 0
AreThere named scans = All (IsThere named) scans
