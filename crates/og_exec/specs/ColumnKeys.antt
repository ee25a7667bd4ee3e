-- Keys whose first value stands apart.
use Rattle.std.specs.Prelude.{Bool, List, [], ◌∷◌}
use Rattle.og_value.specs.declared.value.FixedValue.{FixedValue}
use Rattle.og_query.specs.Expressions.{no_value}
use Rattle.og_query.specs.Queries.{Fixed}
use Rattle.og_plan.specs.declared.plan.ColPair.{ColPair}
use Rattle.og_exec.specs.Keys.{key}
use Rattle.og_exec.specs.declared.keys.ColumnKey.{ColumnKey}

-- values with the first one apart, or the number 0 where there is none
abbrev pub apart : List FixedValue → ColumnKey
apart [] = record { first = no_value; rest = [] }
apart (x ∷ xs) = record { first = x; rest = xs }

-- the key of a left row, or of a right one, with its first value apart
abbrev pub column_key : Bool → List ColPair → Fixed → ColumnKey
column_key left pairs row = apart (key left pairs row)
