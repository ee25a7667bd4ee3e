-- The first place of a script at which no token can be taken.
use Rattle.std.specs.Prelude.{◌≡◌, ◌≢◌, ◌++◌, ◌⊎◌, ℕ, List, [], ◌∷◌, IsTrue, ⊤}
use Rattle.og_lex.specs.Bytes.{is_blank, value_of, IsIn64}
use Rattle.og_lex.specs.Grammar.{IsComment, IsNumeral, IsQuoted, IsToken, Reads}
use Rattle.og_lex.specs.declared.refusal.LexRefusal.{LexRefusal}
use Rattle.og_lex.specs.declared.refusal.LexRefusal.TheVariants as refusals
use Rattle.og_lex.specs.declared.token.Token.{Token}
use Rattle.og_lex.specs.declared.token.TokenKind.{TokenKind}

-- a `'` begins a text that does not close
pub record IsOpenText (z : List ℕ) : Type 0 where
  pub opens : (rest : List ℕ) × (z ≡ 39 ∷ rest)
  pub endless : (content text rest : List ℕ) → z ≡ text ++ rest → ¬ IsQuoted content text rest

-- a numeral whose value is outside 64 bits
abbrev pub IsNumberRange : List ℕ → Type 0
IsNumberRange z = (text rest : List ℕ) × (z ≡ text ++ rest) × IsNumeral text rest × (¬ IsIn64 (value_of text))

-- a blank byte, a comment or a token comes first
abbrev pub Goes : List ℕ → Type 0
Goes z =
    ((b : ℕ) × (rest : List ℕ) × (z ≡ b ∷ rest) × IsTrue (is_blank b))
    ⊎ (((text rest : List ℕ) × (z ≡ text ++ rest) × IsComment text rest)
    ⊎ ((kind : TokenKind) × (text rest : List ℕ) × (z ≡ text ++ rest) × IsToken kind text rest))

-- bytes follow, but none of what may come first, and neither of the two other faults
pub record IsBadByte (z : List ℕ) : Type 0 where
  pub more : z ≢ []
  pub stuck : ¬ Goes z
  pub closed : ¬ IsOpenText z
  pub in_range : ¬ IsNumberRange z

-- the fault where these bytes come next at this place
abbrev pub IsFaultAt : LexRefusal → ℕ → List ℕ → Type 0
IsFaultAt (refusals.BadByte offset) at z = (offset ≡ at) × IsBadByte z
IsFaultAt (refusals.OpenText offset) at z = (offset ≡ at) × IsOpenText z
IsFaultAt (refusals.NumberRange offset) at z = (offset ≡ at) × IsNumberRange z
IsFaultAt refusals.NoMemory at z = ⊥

-- the first fault of a script
abbrev pub IsFirstFault : List ℕ → LexRefusal → Type 0
IsFirstFault script fault = (tokens : List Token) × (at : ℕ) × (z : List ℕ) × Reads 0 script tokens at z × IsFaultAt fault at z

-- why a script is refused: its first fault, or want of memory
abbrev pub IsRefusal : List ℕ → LexRefusal → Type 0
IsRefusal script refusals.NoMemory = ⊤
IsRefusal script fault = IsFirstFault script fault

-- why no more tokens are taken from a place on: the first fault from there, or want of memory
abbrev pub IsRefusalFrom : ℕ → List ℕ → LexRefusal → Type 0
IsRefusalFrom from z refusals.NoMemory = ⊤
IsRefusalFrom from z fault = (tokens : List Token) × (at : ℕ) × (rest : List ℕ) × Reads from z tokens at rest × IsFaultAt fault at rest
