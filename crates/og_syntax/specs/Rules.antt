-- Rules of a grammar, which relate lexemes to a value and to the lexemes after it, and the steps that they are made of.
use Rattle.std.specs.Prelude.{◌≡◌, ◌⊎◌, List, [], ◌∷◌, Option, Some, None}
use Rattle.og_syntax.specs.declared.lexeme.Sort.{Sort}
use Rattle.og_syntax.specs.declared.lexeme.Sort.TheVariants as k
use Rattle.og_syntax.specs.declared.lexeme.Lexeme.{Lexeme}

-- a relation between lexemes, the value of a front of them, and the lexemes after it
abbrev pub Rule : Type 0 → Type 1
Rule A = List Lexeme → A → List Lexeme → Type 0

-- the one, and then the other
abbrev pub Bind : {A B : Type 0} → Rule A → (A → Rule B) → Rule B
Bind {A} P Q = λ ts y rest. (x : A) × (mid : List Lexeme) × P ts x mid × Q x mid y rest

infixl 10 ◌>>=◌
abbrev pub ◌>>=◌ : {A B : Type 0} → Rule A → (A → Rule B) → Rule B
P >>= Q = Bind P Q

infixl 10 ◌>>◌
abbrev pub ◌>>◌ : {A B : Type 0} → Rule A → Rule B → Rule B
P >> Q = P >>= (λ _. Q)

-- the value, without a lexeme
abbrev pub pure : {A : Type 0} → A → Rule A
pure a = λ ts x rest. (x ≡ a) × (rest ≡ ts)

-- a value of this property, without a lexeme
abbrev pub Given : {A : Type 0} → (A → Type 0) → Rule A
Given R = λ ts x rest. R x × (rest ≡ ts)

-- the one, or the other
infixr 5 ◌or◌
abbrev pub ◌or◌ : {A : Type 0} → Rule A → Rule A → Rule A
P or Q = λ ts x rest. P ts x rest ⊎ Q ts x rest

-- no lexemes
abbrev pub Never : {A : Type 0} → Rule A
Never = λ ts x rest. ⊥

-- a lexeme of the sort
abbrev pub Tok : Sort → Rule (Unit {0})
Tok sort = λ ts x rest. (t : Lexeme) × (ts ≡ t ∷ rest) × (t.sort ≡ sort)

-- what comes after a lexeme of the sort
abbrev pub Past : {A : Type 0} → Sort → Rule A → Rule A
Past sort P = Tok sort >> P

-- the lexeme itself, of the sort
abbrev pub One : Sort → Rule Lexeme
One sort = λ ts x rest. (ts ≡ x ∷ rest) × (x.sort ≡ sort)

-- a lexeme with a meaning
abbrev pub Worded : {A : Type 0} → (Sort → Option A) → Rule A
Worded table = λ ts x rest. (t : Lexeme) × (ts ≡ t ∷ rest) × (table t.sort ≡ Some x)

-- any number of parts
abbrev pub Many : {A : Type 0} → Rule A → Rule (List A)
Many P ts [] rest = rest ≡ ts
Many P ts (x ∷ xs) rest = (mid : List Lexeme) × P ts x mid × Many P mid xs rest

-- a part, and then any number of further ones
abbrev pub Joined : {A : Type 0} → Rule A → Rule A → Rule (List A)
Joined P Q = do x ← P; xs ← Many Q; pure (x ∷ xs)

-- a part, or nothing
abbrev pub Optional : {A : Type 0} → Rule A → Rule (Option A)
Optional P = (do x ← P; pure (Some x)) or pure None

-- in parentheses
abbrev pub Single : {A : Type 0} → Rule A → Rule A
Single P = do Tok k.LeftParen; x ← P; Tok k.RightParen; pure x

-- two in parentheses, with a comma between them
abbrev pub Pair : {A : Type 0} → Rule A → Rule (A × A)
Pair P = do Tok k.LeftParen; x ← P; Tok k.Comma; y ← P; Tok k.RightParen; pure (x, y)
