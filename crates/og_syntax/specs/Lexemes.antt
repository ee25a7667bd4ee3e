-- What stands at the front of a list of lexemes.
use Rattle.std.specs.Prelude.{Bool, not, List, [], ◌∷◌}
use denote.Enum.Bare.{sameb}
use Rattle.og_syntax.specs.contracts.lexeme.Sort.{the_type}
use Rattle.og_syntax.specs.declared.lexeme.Sort.{Sort}
use Rattle.og_syntax.specs.declared.lexeme.Sort.TheVariants as k
use Rattle.og_syntax.specs.declared.lexeme.Lexeme.{Lexeme}

-- `==` on sorts
unfoldable pub same_sort : Sort → Sort → Bool
same_sort = sameb the_type

-- the sort of the first lexeme
abbrev pub sort_at : List Lexeme → Sort
sort_at [] = k.Nothing
sort_at (t ∷ ts) = t.sort

-- a lexeme of that sort comes first
unfoldable pub sees : Sort → List Lexeme → Bool
sees sort ts = same_sort (sort_at ts) sort

-- no lexeme of those sorts comes first
abbrev pub lacks : (Sort → Bool) → List Lexeme → Bool
lacks h ts = not (h (sort_at ts))

-- the test for one sort
abbrev pub is : Sort → Sort → Bool
is sort a = same_sort a sort
