use Rattle.std.proofs.Common.{◌≡◌, filter, not, if◌then◌else◌, take}
use Rattle.og_value.specs.Order.{row_order}
use Rattle.og_rel.specs.Algebra.{is_in}
use Rattle.og_query.proofs.algebra.chosen.Given as goal

abbrev pub invariant-left : goal.invariant-left
invariant-left l = l.rows.items ≡ filter (λ row. if l.in_right then is_in row_order row l.right else not (is_in row_order row l.right)) (take l.row-index l.left)
