-- The words that a script is printed as, and their bytes.
use Rattle.std.specs.Prelude.{ℕ, ℤ, Bool, List, [], ◌∷◌, ◌++◌, codes, if◌then◌else◌}
use Rattle.std.specs.Fmt.{signed_decimal}
use Rattle.og_lex.specs.Bytes.{quoted}
use Rattle.og_syntax.specs.declared.lexeme.Sort.{Sort}
use Rattle.og_syntax.specs.declared.lexeme.Sort.TheVariants as k
use Rattle.og_syntax.specs.Words.{word_of}

-- a reserved word or a symbol, a name, a number, or a text
pub data Word : Type 0 where
  Plain : Sort → Word
  Named : List ℕ → Word
  Whole : ℤ → Word
  Quoted : List ℕ → Word

-- the bytes of a symbol
abbrev pub mark_text : Sort → List ℕ
mark_text k.LeftParen = codes "("
mark_text k.RightParen = codes ")"
mark_text k.Comma = codes ","
mark_text k.Semicolon = codes ";"
mark_text k.Dot = codes "."
mark_text k.Star = codes "*"
mark_text k.Equal = codes "="
mark_text k.NotEqual = codes "<>"
mark_text k.LessEqual = codes "<="
mark_text k.GreaterEqual = codes ">="
mark_text k.Less = codes "<"
mark_text k.Greater = codes ">"
mark_text _ = []

-- the bytes of a reserved word, in upper case, or of a symbol
abbrev pub sort_text : Sort → List ℕ
sort_text sort = mark_text sort ++ word_of sort

-- the bytes of a word: a number in decimal, a text between quotes with each quote of it doubled
abbrev pub word_text : Word → List ℕ
word_text (Plain sort) = sort_text sort
word_text (Named name) = name
word_text (Whole n) = signed_decimal n
word_text (Quoted content) = quoted content

-- the sort of a word
abbrev pub word_sort : Word → Sort
word_sort (Plain sort) = sort
word_sort (Named name) = k.Name
word_sort (Whole n) = k.Number
word_sort (Quoted content) = k.Quoted

-- the blank after a word: a line feed after a semicolon, else a space
abbrev pub blank_after : Sort → ℕ
blank_after k.Semicolon = 10
blank_after _ = 32

-- bytes with a word after them, and a blank after it
abbrev pub with_word : List ℕ → Word → List ℕ
with_word z w = z ++ word_text w ++ blank_after (word_sort w) ∷ []

-- bytes with words after them, and a blank after each
abbrev pub with_words : List ℕ → List Word → List ℕ
with_words z [] = z
with_words z (w ∷ ws) = with_words (with_word z w) ws

-- the words of each thing, one thing after the other
abbrev pub each : {A : Type 0} → (A → List Word) → List A → List Word
each f [] = []
each f (x ∷ xs) = f x ++ each f xs

-- the words of the first thing, and those of each further one
abbrev pub joined : {A : Type 0} → (A → List Word) → (A → List Word) → List A → List Word
joined f g [] = []
joined f g (x ∷ xs) = f x ++ each g xs

-- the words after a reserved word or symbol
abbrev pub behind : {A : Type 0} → Sort → (A → List Word) → A → List Word
behind sort f x = Plain sort ∷ f x

-- with commas between them
abbrev pub listed : {A : Type 0} → (A → List Word) → List A → List Word
listed f = joined f (behind k.Comma f)

-- a word that parts have between them, before a part that is not the first
abbrev pub separator_words : Bool → Sort → List Word
separator_words is_first sort = if is_first then [] else Plain sort ∷ []

-- the words of parts with a word between them, where others may come before
abbrev pub parted : {A : Type 0} → Bool → Sort → (A → List Word) → List A → List Word
parted is_first sort f xs = if is_first then joined f (behind sort f) xs else each (behind sort f) xs

-- in parentheses
abbrev pub enclosed : List Word → List Word
enclosed ws = Plain k.LeftParen ∷ ws ++ Plain k.RightParen ∷ []

-- in parentheses where they are needed
abbrev pub enclosed_if : Bool → List Word → List Word
enclosed_if needed ws = if needed then enclosed ws else ws
