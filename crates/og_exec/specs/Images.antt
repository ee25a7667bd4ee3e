-- The images of rows of a day.
use Rattle.std.specs.Prelude.{List, map}
use Rattle.og_base.specs.Set.{set_of}
use Rattle.og_value.specs.Order.{row_order}
use Rattle.og_query.specs.Queries.{Fixed}

-- the set of the images of the rows
abbrev pub images : (Fixed → Fixed) → List Fixed → List Fixed
images f rows = set_of row_order (map f rows)
