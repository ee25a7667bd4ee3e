-- Groups of rows with one key.
use Rattle.std.proofs.Common.{◌≡◌, ◌++◌, List, [], ◌∷◌, filter, Ordering}
use Rattle.std.specs.Ordering.{eq_by_cmp}
use Rattle.std.proofs.lemmas.List.Elements.{All-push, All-same}
use Rattle.og_ops.specs.declared.semijoins.KeyedRow.{KeyedRow}
use Rattle.og_join.specs.Groups.{AreGroupsOf}
use Rattle.og_join.specs.declared.groups.Group.{Group}

-- one more group
pub groups_more : {R K : Type 0} (cmp : K → K → Ordering) (rows : List (KeyedRow R K)) (old new : List (Group R K)) (group : Group R K) → new ≡ old ++ group ∷ []
    → group.rows.now ≡ filter (λ other. eq_by_cmp cmp other.key group.key.now) rows → AreGroupsOf cmp rows old → AreGroupsOf cmp rows new
groups_more {R} {K} cmp rows old new group e is before = All-same of_key new (old ++ group ∷ []) e (All-push of_key old group before is)
  where
    of_key : Group R K → Type 0
    of_key g = g.rows.now ≡ filter (λ other. eq_by_cmp cmp other.key g.key.now) rows
