use Rattle.std.proofs.Common.{◌+◌, ◌*◌}
use Rattle.og_syntax.proofs.expressions.+expressions.Given as goal

abbrev pub decreases-expression_in : goal.decreases-expression_in
decreases-expression_in l = 2 * l.depth

abbrev pub decreases-call_of_two : goal.decreases-call_of_two
decreases-call_of_two l = 2 * l.depth + 1

abbrev pub decreases-call_of_one : goal.decreases-call_of_one
decreases-call_of_one l = 2 * l.depth + 1
