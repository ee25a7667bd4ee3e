use Rattle.std.proofs.Common.{◌≡◌, ◌≤◌, ℕ, Bool, length, take}
use Rattle.std.specs.List.{list_any}
use Rattle.og_join.specs.Tried.{rows_pass}
use Rattle.og_join.proofs.row_pairs.rows_of_places.Given as goal

abbrev pub invariant-places : goal.invariant-places
invariant-places l = record {
  rows : (t : ℕ → ℕ → Bool) → list_any (λ p. t p.0 p.1) l.rows.items ≡ list_any (rows_pass t l.left l.right) (take l.place-index l.places);
  size : length l.rows.items ≤ l.place-index;
}
