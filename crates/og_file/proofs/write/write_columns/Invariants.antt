use Rattle.std.proofs.Common.{ℕ, List, map, take}
use Rattle.std.specs.List.{All}
use Rattle.og_value.specs.Words.{IsLowerWord}
use Rattle.og_file.specs.Writers.{HasText, HasFields}
use Rattle.og_file.specs.Writing.{column_text}
use Rattle.og_file.proofs.write.write_columns.Given as goal

abbrev pub invariant-columns : goal.invariant-columns
invariant-columns l =
    ((text : List ℕ) → HasText l.fn.writer text → HasFields l.writer text (take l.i (map column_text l.schema)))
    × All (λ c. IsLowerWord c.name) (take l.i l.schema)
