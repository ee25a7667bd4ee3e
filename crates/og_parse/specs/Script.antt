-- Which trees a script has, and its first fault.
use Rattle.std.specs.Prelude.{◌≡◌, ◌⊎◌, ℕ, suc, Bool, true, false, List, [], ◌∷◌, ⊤, if◌then◌else◌}
use Rattle.og_lex.specs.declared.token.Token.{Token}
use Rattle.og_syntax.specs.declared.lexeme.Sort.TheVariants as k
use Rattle.og_syntax.specs.declared.lexeme.Lexeme.{Lexeme}
use Rattle.og_syntax.specs.declared.tree.Stmt.{Stmt}
use Rattle.og_syntax.specs.Lexemes.{same_sort}
use Rattle.og_parse.specs.declared.refusal.ParseRefusal.{ParseRefusal}
use Rattle.og_parse.specs.declared.refusal.ParseRefusal.TheVariants as r
use Rattle.og_parse.specs.Tokens.{lexemes_of}
use Rattle.og_parse.specs.Depth.{is_too_deep}
use Rattle.og_parse.specs.Statements.{IsWhole}

-- the pieces with one more lexeme before them
abbrev pub glued : Lexeme → List (List Lexeme) → List (List Lexeme)
glued t [] = (t ∷ []) ∷ []
glued t (p ∷ ps) = (t ∷ p) ∷ ps

-- the lexemes, cut after each semicolon
abbrev pub pieces : List Lexeme → List (List Lexeme)
pieces [] = []
pieces (t ∷ ts) = if same_sort t.sort k.Semicolon then (t ∷ []) ∷ pieces ts else glued t (pieces ts)

-- a piece that is not too deep and is this statement
abbrev pub IsGood : List ℕ → List Lexeme → Stmt → Type 0
IsGood script ts x = (is_too_deep ts ≡ false) × IsWhole script true ts x

-- a piece is no statement
abbrev pub IsNone : List ℕ → Bool → List Lexeme → Type 0
IsNone script strict ts = (x : Stmt) → ¬ IsWhole script strict ts x

-- the fault of a piece with that number: it is too deep; else it is no statement; else it is one but for the form of its quoted texts
abbrev pub HasFault : List ℕ → ℕ → List Lexeme → ParseRefusal → Type 0
HasFault script number ts (r.TooDeep at) = (at ≡ number) × (is_too_deep ts ≡ true)
HasFault script number ts (r.Syntax at) = (at ≡ number) × (is_too_deep ts ≡ false) × IsNone script false ts
HasFault script number ts (r.Literal at) = (at ≡ number) × (is_too_deep ts ≡ false) × IsNone script true ts × (x : Stmt) × IsWhole script false ts x
HasFault script number ts r.NoMemory = ⊥

-- each piece is good, and these are the statements
abbrev pub AreGood : List ℕ → List (List Lexeme) → List Stmt → Type 0
AreGood script [] [] = ⊤
AreGood script (p ∷ ps) (x ∷ xs) = IsGood script p x × AreGood script ps xs
AreGood script [] (x ∷ xs) = ⊥
AreGood script (p ∷ ps) [] = ⊥

-- the first piece that is not good has this fault, where the pieces are counted from the number on
abbrev pub HasFirstFault : List ℕ → ℕ → List (List Lexeme) → ParseRefusal → Type 0
HasFirstFault script number [] fault = ⊥
HasFirstFault script number (p ∷ ps) fault = HasFault script number p fault ⊎ ((x : Stmt) × IsGood script p x × HasFirstFault script (suc number) ps fault)

-- the statements of the tokens of a script
abbrev pub IsScript : List ℕ → List Token → List Stmt → Type 0
IsScript script tokens xs = AreGood script (pieces (lexemes_of script tokens)) xs

-- the first fault of the tokens of a script, with the number of its statement from 1
abbrev pub IsFirstFault : List ℕ → List Token → ParseRefusal → Type 0
IsFirstFault script tokens fault = HasFirstFault script 1 (pieces (lexemes_of script tokens)) fault

-- of this property, or want of memory
abbrev pub OrNoMemory : (ParseRefusal → Type 0) → ParseRefusal → Type 0
OrNoMemory P r.NoMemory = ⊤
OrNoMemory P fault = P fault
