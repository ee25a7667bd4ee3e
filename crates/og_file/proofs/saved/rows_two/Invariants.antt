use Rattle.std.proofs.Common.{◌≡◌, ◌+◌, ℕ, List, [], ◌∷◌, length}
use Rattle.og_file.specs.Readers.{HasRead}
use Rattle.og_file.specs.Records.{Record, Each}
use Rattle.og_file.specs.SavedFile.{IsRow, mark, two}
use Rattle.og_file.proofs.saved.rows_two.Given as goal

abbrev pub invariant-records : goal.invariant-records
invariant-records g l =
    (records : List Record) × Each (IsRow two l.schema) records l.rel × (l.number ≡ length records + 3)
    × ((bytes : List ℕ) (header : Record) → HasRead bytes (mark ∷ header ∷ []) l.fn.reader → HasRead bytes (mark ∷ header ∷ records) l.reader)
