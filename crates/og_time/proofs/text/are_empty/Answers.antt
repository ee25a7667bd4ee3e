use Rattle.std.proofs.Common.{arith}
use Rattle.std.proofs.lemmas.Bool.Decides.{nat_tests}
use Rattle.og_time.proofs.text.are_empty.Goals as goal

pub returns-else-is_empty : goal.returns-else-is_empty
returns-else-is_empty c = (λ t. grind (arith, nat_tests, c.is_empty.ensures, c.if-is_empty.false, t), λ e. grind (arith, nat_tests, c.is_empty.ensures, c.if-is_empty.false, e))
