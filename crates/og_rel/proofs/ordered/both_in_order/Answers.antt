use Rattle.std.proofs.Common.{◌++◌, sym, ◌∙◌}
use Rattle.og_base.specs.Set.{IsExactOrder}
use Rattle.og_base.proofs.SetLemmas.{set_of-rising}
use Rattle.og_rel.proofs.ordered.both_in_order.Goals as goal

pub returns-then-is_before : goal.returns-then-is_before
returns-then-is_before g c first second =
    let o : IsExactOrder _ = record { total = g.met.F.Ord.total; exact = c.requires.exact } in
    let before = rw c.as_slice.ensures.value at (rw c.as_slice-2.ensures.value at (c.comes_before-is_before.ensures c.if-is_before.true)) in
    c.in_ok-all.ensures ∙ sym (set_of-rising o (c.args.first.items ++ c.args.second.items) (before first second))
