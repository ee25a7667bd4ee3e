-- The parts of the lines of faults.
use Rattle.std.specs.Prelude.{◌++◌, ℕ, List, [], ◌∷◌, codes}
use Rattle.std.specs.Fmt.{decimal}
use Rattle.og_value.specs.declared.kind.Kind.{Kind}
use Rattle.og_value.specs.declared.kind.Kind.TheVariants as kinds

-- a line that ends with a number
abbrev pub numbered : List ℕ → ℕ → List ℕ
numbered words n = words ++ decimal n ++ 10 ∷ []

-- a line with a number, and what follows it
abbrev pub numbered_with : List ℕ → ℕ → List ℕ → List ℕ
numbered_with words n more = words ++ decimal n ++ codes ": " ++ more ++ 10 ∷ []

-- a line with a number, and two things after it with words between them
abbrev pub numbered_between : List ℕ → ℕ → List ℕ → List ℕ → List ℕ → List ℕ
numbered_between words n found between wanted = words ++ decimal n ++ codes ": " ++ found ++ between ++ wanted ++ 10 ∷ []

-- the word of a kind
abbrev pub kind_word : Kind → List ℕ
kind_word kinds.Int = codes "INT"
kind_word kinds.Text = codes "TEXT"
kind_word kinds.Date = codes "DATE"
kind_word kinds.Period = codes "PERIOD"
