use Rattle.std.proofs.Common.{◌≡◌, ◌+◌, length, false}
use Rattle.og_lex.specs.Front.{closing}
use Rattle.og_lex.proofs.quote.closing_past_pairs.Given as goal

abbrev pub invariant-bytes : goal.invariant-bytes
invariant-bytes l = (closing l.is_second l.at l.z ≡ closing false 0 l.initial.z) × (l.at + length l.z ≡ length l.initial.z)

abbrev pub decreases-bytes : goal.decreases-bytes
decreases-bytes l = length l.z
