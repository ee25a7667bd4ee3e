use Rattle.std.proofs.Common.{◌≡◌, ◌∙◌, Less, ap, sym, arith}
use Rattle.std.specs.Ordering.{ordering_reverse}
use Rattle.og_value.specs.Exact.{rows_total}
use Rattle.og_value.specs.HeightLaws.{rows_first}
use Rattle.og_value.specs.Order.{row_order}
use Rattle.og_value.proofs.sight.SightOrd.cmp.Goals as goal

pub returns-then-height-other_height : goal.returns-then-height-other_height
returns-then-height-other_height c =
    let first : row_order c.args.self.now c.args.other.now ≡ Less =
    rw (← c.self.view_is, ← c.other.view_is) (rows_first _ _ _ _ c.self.invariant c.other.invariant
    (omega (arith, c.number-height.ensures, c.number-other_height.ensures, c.if-height-other_height.true))) in
    sym first

pub returns-then-other_height-height : goal.returns-then-other_height-height
returns-then-other_height-height c =
    let first : row_order c.args.other.now c.args.self.now ≡ Less =
    rw (← c.self.view_is, ← c.other.view_is) (rows_first _ _ _ _ c.other.invariant c.self.invariant
    (omega (arith, c.number-height.ensures, c.number-other_height.ensures, c.if-other_height-height.true))) in
    sym (rows_total.antisymm c.args.self.now c.args.other.now ∙ ap ordering_reverse first)
