-- Rows of one day that fit columns, and what keeps them so.
use Rattle.std.specs.Prelude.{◌≡◌, ℤ, List, map}
use Rattle.std.specs.List.{All}
use Rattle.og_base.specs.Calendar.{IsRefDay}
use Rattle.og_value.specs.declared.schema.Column.{Column}
use Rattle.og_query.specs.Kinds.{fixed_kind, kinds_of}
use Rattle.og_query.specs.Queries.{Fixed}

-- a row of one day has one value of the kind of each column, in order
abbrev pub IsFitFixed : List Column → Fixed → Type 0
IsFitFixed columns row = map fixed_kind row ≡ kinds_of columns

-- of rows that fit it makes rows that fit, on each day
abbrev pub KeepsKinds : List Column → (ℤ → List Fixed → List Fixed) → Type 0
KeepsKinds columns plain = (d : ℤ) → IsRefDay d → (rows : List Fixed) → All (IsFitFixed columns) rows → All (IsFitFixed columns) (plain d rows)
