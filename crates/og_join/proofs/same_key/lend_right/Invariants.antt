use Rattle.std.proofs.Common.{◌≡◌, ◌≤◌, ℤ, Bool, length, map, take}
use Rattle.std.specs.List.{All, Contains, list_any}
use Rattle.og_base.specs.Calendar.{IsRefDay}
use Rattle.og_rel.specs.Relations.{present}
use Rattle.og_ops.specs.Lending.{lent}
use Rattle.og_join.specs.SameKey.{HaveDayKeys, HaveSpans}
use Rattle.og_join.specs.Sought.{OfSought}
use Rattle.og_join.proofs.same_key.lend_right.Given as goal

abbrev pub invariant-rows : goal.invariant-rows
invariant-rows g l = record {
  keys : HaveDayKeys g.R.Instant.meaning (g.Q.Keys.right_of l.keys) l.rows.items;
  spans : HaveSpans (g.S.Spans.right_of l.spans) l.rows.items;
  found : (t : g.row.R-Fixed.Denot → Bool) (d : ℤ) → IsRefDay d → OfSought g.Q.Key.Ord.cmp (g.Q.Keys.right_of l.keys) l.sought t
      → list_any t (present g.R.Instant.meaning (lent l.rows.items) d) ≡ list_any t (present g.R.Instant.meaning (take l.pair-index (map (λ p. (p.row, p.days)) l.right)) d);
  among : All (Contains (map (λ p. (p.row, p.days)) l.right)) (lent l.rows.items);
  size : length l.rows.items ≤ l.pair-index;
}
