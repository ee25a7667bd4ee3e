-- Schemas.
use Rattle.std.specs.Prelude.{◌≤◌, List, length}
use Rattle.og_value.specs.Limits.{max_columns}

-- one column or more, and no more than there may be
pub record IsSchema {C : Type 0} (columns : List C) : Type 0 where
  pub some : 1 ≤ length columns
  pub most : length columns ≤ max_columns
