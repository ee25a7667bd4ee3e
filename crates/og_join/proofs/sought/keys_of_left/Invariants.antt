use Rattle.std.proofs.Common.{◌≡◌, ℤ, true, take}
use Rattle.std.specs.List.{All, list_any}
use Rattle.std.specs.Ordering.{eq_by_cmp}
use Rattle.og_base.specs.Calendar.{IsRefDay}
use Rattle.og_rel.specs.Relations.{present}
use Rattle.og_join.proofs.sought.keys_of_left.Given as goal

abbrev pub invariant-rows : goal.invariant-rows
invariant-rows g l = (d : ℤ) → IsRefDay d
    → All (λ x. list_any (λ k. eq_by_cmp g.Q.Key.Ord.cmp k (g.Q.Keys.left_of l.keys x)) l.found.items ≡ true) (present g.R.Instant.meaning (take l.i l.left) d)
