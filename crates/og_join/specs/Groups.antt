-- Rows in groups of one key.
use Rattle.std.specs.Prelude.{◌≡◌, List, filter}
use Rattle.std.specs.List.{All}
use Rattle.std.specs.Ordering.{eq_by_cmp}
use Rattle.std.specs.declared.cmp.Ordering.{Ordering}
use Rattle.og_ops.specs.declared.semijoins.KeyedRow.{KeyedRow}
use Rattle.og_join.specs.declared.groups.Group.{Group}

-- each group is those of the rows that have its key
abbrev pub AreGroupsOf : {R K : Type 0} → (K → K → Ordering) → List (KeyedRow R K) → List (Group R K) → Type 0
AreGroupsOf cmp rows groups = All (λ g. g.rows.now ≡ filter (λ other. eq_by_cmp cmp other.key g.key.now) rows) groups
