-- How many may stand in a statement.
use Rattle.std.specs.Prelude.{ℕ}

-- the most items of FROM
abbrev pub max_tables : ℕ
max_tables = 16
