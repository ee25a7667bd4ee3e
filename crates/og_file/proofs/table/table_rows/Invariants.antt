use Rattle.std.proofs.Common.{ℕ, List, [], ◌∷◌}
use Rattle.og_file.specs.Readers.{HasRead}
use Rattle.og_file.specs.Records.{Record, Each}
use Rattle.og_file.specs.TableFile.{AreCells}
use Rattle.og_file.proofs.table.table_rows.Given as goal

abbrev pub invariant-records : goal.invariant-records
invariant-records g l =
    (records : List Record) × Each (AreCells l.schema) records l.rows.items
    × ((bytes : List ℕ) (names : Record) → HasRead bytes (names ∷ []) l.fn.reader → HasRead bytes (names ∷ records) l.reader)
