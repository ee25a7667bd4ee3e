use Rattle.std.proofs.Common.{◌≡◌}
use Rattle.og_script.specs.Commands.{load_rows}
use Rattle.og_script.proofs.load.rows.Given as goal

abbrev pub invariant-rows : goal.invariant-rows
invariant-rows l = l.rows.items ≡ load_rows l.side l.i
