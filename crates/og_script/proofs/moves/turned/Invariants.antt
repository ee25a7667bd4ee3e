-- What was moved out, and then what is left in turned order, is all in turned order.
use Rattle.std.proofs.Common.{◌≡◌, ◌++◌, length, reverse}
use Rattle.og_script.proofs.moves.turned.Given as goal

abbrev pub invariant-items : goal.invariant-items
invariant-items g l = l.out.items ++ reverse l.left ≡ reverse l.fn.items

abbrev pub decreases-items : goal.decreases-items
decreases-items g l = length l.left
