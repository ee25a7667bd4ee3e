-- Words that are read as they are written, and the lexemes that spell them.
use Rattle.std.specs.Prelude.{◌≡◌, ℕ, Bool, true, false, List, [], ◌∷◌, ⊤}
use Rattle.std.specs.Str.{IsUtf8}
use Rattle.og_lex.specs.Bytes.{IsIn64}
use Rattle.og_syntax.specs.declared.lexeme.Sort.{Sort}
use Rattle.og_syntax.specs.declared.lexeme.Sort.TheVariants as k
use Rattle.og_syntax.specs.declared.lexeme.Lexeme.{Lexeme}
use Rattle.og_syntax.specs.Spans.{spelling, IsContent, IsNameOf}
use Rattle.og_value.specs.Words.{is_word, folded}
use Rattle.og_syntax.specs.Words.{sort_of_word}
use Rattle.og_print.specs.Words.{Word, Plain, Named, Whole, Quoted}

-- a sort with a spelling of its own that does not end a statement
abbrev pub is_inner : Sort → Bool
is_inner k.Name = false
is_inner k.Number = false
is_inner k.Quoted = false
is_inner k.Nothing = false
is_inner k.Semicolon = false
is_inner _ = true

-- a word inside a statement that is read as it is written: a name that is not reserved and in lower case, a number of 64 bits, a text in UTF-8
abbrev pub IsWell : Word → Type 0
IsWell (Plain sort) = is_inner sort ≡ true
IsWell (Named name) = (is_word name ≡ true) × (folded name ≡ name) × (sort_of_word name ≡ k.Name)
IsWell (Whole n) = IsIn64 n
IsWell (Quoted content) = IsUtf8 content

-- each of the words is so
abbrev pub AreWell : List Word → Type 0
AreWell [] = ⊤
AreWell (w ∷ ws) = IsWell w × AreWell ws

-- the lexeme spells the word
abbrev pub Spells : List ℕ → Lexeme → Word → Type 0
Spells script t (Plain sort) = t.sort ≡ sort
Spells script t (Named name) = (t.sort ≡ k.Name) × IsNameOf (spelling script t) name
Spells script t (Whole n) = (t.sort ≡ k.Number) × (t.number ≡ n)
Spells script t (Quoted z) = (t.sort ≡ k.Quoted) × IsContent script t z

-- each of the lexemes spells its word
abbrev pub SpellAll : List ℕ → List Lexeme → List Word → Type 0
SpellAll script [] [] = ⊤
SpellAll script [] (w ∷ ws) = ⊥
SpellAll script (t ∷ ts) [] = ⊥
SpellAll script (t ∷ ts) (w ∷ ws) = Spells script t w × SpellAll script ts ws

-- what is known of each lexeme of a script: a name is not reserved, a number has 64 bits, a text is UTF-8
pub record IsProper (script : List ℕ) (t : Lexeme) : Type 0 where
  pub name : t.sort ≡ k.Name → sort_of_word (spelling script t) ≡ k.Name
  pub number : t.sort ≡ k.Number → IsIn64 t.number
  pub text : (content : List ℕ) → t.sort ≡ k.Quoted → IsContent script t content → IsUtf8 content

-- each of the lexemes is so
abbrev pub AreProper : List ℕ → List Lexeme → Type 0
AreProper script [] = ⊤
AreProper script (t ∷ ts) = IsProper script t × AreProper script ts
