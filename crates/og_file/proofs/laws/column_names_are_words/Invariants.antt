use Rattle.std.proofs.Common.{take}
use Rattle.std.specs.List.{All}
use Rattle.og_value.specs.Words.{IsLowerWord}
use Rattle.og_file.proofs.laws.column_names_are_words.Given as goal

abbrev pub invariant-columns : goal.invariant-columns
invariant-columns l = All (λ c. IsLowerWord c.name) (take l.i l.schema)
