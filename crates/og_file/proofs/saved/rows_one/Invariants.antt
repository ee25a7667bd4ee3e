use Rattle.std.proofs.Common.{◌≡◌, ◌+◌, ℕ, List, [], ◌∷◌, length}
use Rattle.og_file.specs.Readers.{HasRead}
use Rattle.og_file.specs.Records.{Record, Each}
use Rattle.og_file.specs.SavedFile.{IsRow, one}
use Rattle.og_file.proofs.saved.rows_one.Given as goal

abbrev pub invariant-records : goal.invariant-records
invariant-records g l =
    (records : List Record) × Each (IsRow one l.schema) records l.rel × (l.number ≡ length records + 2)
    × ((bytes : List ℕ) (header : Record) → HasRead bytes (header ∷ []) l.fn.reader → HasRead bytes (header ∷ records) l.reader)
