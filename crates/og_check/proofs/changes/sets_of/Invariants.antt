use Rattle.std.proofs.Common.{◌≡◌, drop}
use Rattle.og_check.specs.Statements.{sets_of, with_set}
use Rattle.og_check.specs.Steps.{in_turn}
use Rattle.og_check.proofs.changes.sets_of.Given as goal

abbrev pub invariant-each : goal.invariant-each
invariant-each l = in_turn (with_set l.sight) l.typed (drop l.set-index l.sets) ≡ sets_of l.sight l.sets
