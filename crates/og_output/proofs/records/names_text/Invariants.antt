use Rattle.std.proofs.Common.{◌≡◌, take}
use Rattle.og_output.specs.Records.{names_text}
use Rattle.og_output.proofs.records.names_text.Given as goal

abbrev pub invariant-names : goal.invariant-names
invariant-names l = l.text.items ≡ names_text (take l.i l.db)
