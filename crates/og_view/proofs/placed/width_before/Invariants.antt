use Rattle.std.proofs.Common.{◌≡◌, take}
use Rattle.og_view.specs.Parts.{width_of}
use Rattle.og_view.proofs.placed.width_before.Given as goal

abbrev pub invariant-tables : goal.invariant-tables
invariant-tables l = l.width ≡ width_of (take l.i l.tables)
