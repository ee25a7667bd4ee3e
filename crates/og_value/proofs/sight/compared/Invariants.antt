use Rattle.std.proofs.Common.{◌≡◌, drop}
use Rattle.std.specs.Cmp.Lexicographic.{slice_cmp}
use Rattle.og_value.specs.Order.{row_order}
use Rattle.og_value.specs.Values.{row_at}
use Rattle.og_value.proofs.SightLemmas.{days_order}
use Rattle.og_value.proofs.sight.compared.Given as goal

abbrev pub invariant-columns : goal.invariant-columns
invariant-columns l = slice_cmp (days_order l.left_day l.right_day) (drop l.i l.left) (drop l.i l.right) ≡ row_order (row_at l.left l.left_day) (row_at l.right l.right_day)
