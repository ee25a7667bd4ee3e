use Rattle.std.proofs.Common.{◌≡◌, ◌≤◌, ℤ, Bool, List, length, take}
use Rattle.std.specs.List.{list_any}
use Rattle.og_base.specs.Ranges.{Range}
use Rattle.og_join.specs.Tried.{at_row, has_span}
use Rattle.og_join.proofs.outers.spans_of.Given as goal

abbrev pub invariant-rows : goal.invariant-rows
invariant-rows g l = record {
  rows : (t : ℤ → ℤ → g.row.R.Denot × List Range → Bool) → list_any (at_row t l.rel) l.spans.items ≡ list_any (has_span (g.S.SpanOf.span_of l.side) t) (take l.i l.rel);
  size : length l.spans.items ≤ l.i;
}
