use Rattle.std.proofs.Common.{◌≡◌, ◌++◌, length, false}
use Rattle.og_lex.specs.Front.{single_quotes}
use Rattle.og_lex.proofs.quote.single.Given as goal

abbrev pub invariant-bytes : goal.invariant-bytes
invariant-bytes l = l.content.items ++ single_quotes l.is_second l.z ≡ single_quotes false l.initial.z

abbrev pub decreases-bytes : goal.decreases-bytes
decreases-bytes l = length l.z
