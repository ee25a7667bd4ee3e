-- The first piece of some lexemes.
use Rattle.std.specs.Prelude.{List, [], ◌∷◌, if◌then◌else◌}
use Rattle.og_syntax.specs.declared.lexeme.Sort.TheVariants as k
use Rattle.og_syntax.specs.declared.lexeme.Lexeme.{Lexeme}
use Rattle.og_syntax.specs.Lexemes.{same_sort}

-- the lexemes up to the first semicolon and with it, or all
abbrev pub piece_of : List Lexeme → List Lexeme
piece_of [] = []
piece_of (t ∷ ts) = if same_sort t.sort k.Semicolon then t ∷ [] else t ∷ piece_of ts
