use Rattle.std.proofs.Common.{length}
use Rattle.og_base.proofs.SetTexts.{IsRead}
use Rattle.og_base.proofs.set_text.read_ranges.Given as goal

abbrev pub invariant-each : goal.invariant-each
invariant-each l = IsRead l.text l.boundaries l.low l.rest

abbrev pub decreases-each : goal.decreases-each
decreases-each l = length l.rest
