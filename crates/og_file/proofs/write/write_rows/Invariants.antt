use Rattle.std.proofs.Common.{◌++◌, ℕ, List, map, take}
use Rattle.std.specs.List.{All}
use Rattle.csv.proofs.RoundTrip.{rows_text}
use Rattle.og_file.specs.Writers.{HasText}
use Rattle.og_file.specs.Writing.{IsReadAgain, row_record}
use Rattle.og_file.proofs.write.write_rows.Given as goal

abbrev pub invariant-rows : goal.invariant-rows
invariant-rows g l =
    ((records : List (List (List ℕ))) → HasText l.fn.writer (rows_text records) → HasText l.writer (rows_text (records ++ take l.i (map row_record l.rel))))
    × All (λ p. All IsReadAgain p.0) (take l.i l.rel)
