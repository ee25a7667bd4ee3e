use Rattle.std.proofs.Common.{take, option_copied}
use Rattle.og_output.proofs.OrderedLemmas.{AreInOrder}
use Rattle.og_output.proofs.ordered.are_in_order.Given as goal

abbrev pub invariant-lists : goal.invariant-lists
invariant-lists g l = AreInOrder g.F.Ord.cmp (take l.list-index l.lists) (option_copied l.end)
