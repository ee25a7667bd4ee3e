-- Rows that are inserted.
use Rattle.std.specs.Prelude.{List, [], ◌∷◌, map}
use Rattle.og_base.specs.Calendar.{first_day, after_all}
use Rattle.og_base.specs.Ranges.{Range}

-- all reference days
abbrev pub all_days : List Range
all_days = record { lo = first_day; hi = after_all } ∷ []

-- the rows, each present on all days
abbrev pub on_all_days : {R : Type 0} → List R → List (R × List Range)
on_all_days rows = map (λ row. (row, all_days)) rows
