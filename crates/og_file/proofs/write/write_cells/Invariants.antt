use Rattle.std.proofs.Common.{ℕ, List, map, take}
use Rattle.std.specs.List.{All}
use Rattle.og_value.specs.Cells.{cell_text}
use Rattle.og_file.specs.Writers.{HasText, HasFields}
use Rattle.og_file.specs.Writing.{IsReadAgain}
use Rattle.og_file.proofs.write.write_cells.Given as goal

abbrev pub invariant-values : goal.invariant-values
invariant-values l =
    ((text : List ℕ) → HasText l.fn.writer text → HasFields l.writer text (take l.i (map cell_text l.row)))
    × All IsReadAgain (take l.i l.row)
