use Rattle.std.proofs.Common.{◌≡◌, false, take}
use Rattle.std.specs.List.{list_any}
use Rattle.std.specs.Ordering.{eq_by_cmp}
use Rattle.og_value.specs.Order.{row_order}
use Rattle.og_query.proofs.algebra.has.Given as goal

abbrev pub invariant-others : goal.invariant-others
invariant-others l = list_any (eq_by_cmp row_order l.row) (take l.other-index l.rows) ≡ false
