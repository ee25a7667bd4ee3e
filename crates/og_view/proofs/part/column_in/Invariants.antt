use Rattle.std.proofs.Common.{◌≡◌, ◌+◌, take}
use Rattle.og_view.specs.Parts.{width_of}
use Rattle.og_view.proofs.part.column_in.Given as goal

abbrev pub invariant-tables : goal.invariant-tables
invariant-tables l = l.column ≡ width_of (take l.i l.tables) + l.left
