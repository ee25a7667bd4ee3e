-- How large a schema may be.
use Rattle.std.specs.Prelude.{ℕ}

-- the most columns of a schema
abbrev pub max_columns : ℕ
max_columns = 64
