-- Readers, which give a value and the lexemes after it, and the steps that they are made of.
use Rattle.std.specs.Prelude.{◌≡◌, ℕ, zero, suc, Bool, true, false, List, [], ◌∷◌, Option, Some, None, Result, Ok, Err, length, drop, ◌++◌, if◌then◌else◌}
use denote.Ref.{Bor}
use Rattle.og_syntax.specs.declared.lexeme.Sort.{Sort}
use Rattle.og_syntax.specs.declared.lexeme.Sort.TheVariants as k
use Rattle.og_syntax.specs.declared.lexeme.Lexeme.{Lexeme}
use Rattle.og_syntax.specs.declared.reading.Literals.{Literals}
use Rattle.og_syntax.specs.declared.reading.Literals.TheVariants as literals
use Rattle.og_syntax.specs.declared.reading.Reading.{Reading}
use Rattle.og_syntax.specs.declared.refusal.Refusal.{Refusal}
use Rattle.og_syntax.specs.declared.refusal.Refusal.TheVariants as r
use Rattle.og_syntax.specs.Lexemes.{same_sort, sort_at, sees}

-- a value and the lexemes after it, or nothing
abbrev pub Outcome : Type 0 → Type 0
Outcome A = Option (A × List Lexeme)

-- what reads a front of lexemes
abbrev pub Reads : Type 0 → Type 0
Reads A = List Lexeme → Outcome A

-- the value, and the lexemes after it
abbrev pub got : {A : Type 0} → A → List Lexeme → Outcome A
got x rest = Some (x, rest)

-- with what was read, and the lexemes after it
abbrev pub and_then : {A B : Type 0} → Outcome A → (A → Reads B) → Outcome B
and_then (Some x) f = f x.0 x.1
and_then None f = None

-- the one, and then the other
abbrev pub bind : {A B : Type 0} → Reads A → (A → Reads B) → Reads B
bind p f = λ ts. and_then (p ts) f

infixl 10 ◌>>=◌
abbrev pub ◌>>=◌ : {A B : Type 0} → Reads A → (A → Reads B) → Reads B
p >>= f = bind p f

infixl 10 ◌>>◌
abbrev pub ◌>>◌ : {A B : Type 0} → Reads A → Reads B → Reads B
p >> q = p >>= (λ _. q)

-- the value, without a lexeme
abbrev pub pure : {A : Type 0} → A → Reads A
pure x = λ ts. got x ts

-- nothing is read
abbrev pub refuse : {A : Type 0} → Reads A
refuse = λ ts. None

-- the value where there is one
abbrev pub given : {A : Type 0} → Option A → Reads A
given (Some x) = pure x
given None = refuse

-- each text after DATE, ONGOING and PERIOD has to be of its form
abbrev pub is_strict : Literals → Bool
is_strict literals.Strict = true
is_strict literals.Lenient = false

-- what reads such a script, with its literals read so
abbrev pub by : {A : Type 0} → Reading → (List ℕ → Bool → A) → A
by reading p = p reading.script.now (is_strict reading.literals)

-- one of two, by the sort of the first lexeme
abbrev pub choose : {A : Type 0} → (Sort → Bool) → Reads A → Reads A → Reads A
choose h p q = λ ts. if h (sort_at ts) then p ts else q ts

-- one of two, by the lexemes that come
abbrev pub choose_if : {A : Type 0} → (List Lexeme → Bool) → Reads A → Reads A → Reads A
choose_if h p q = λ ts. if h ts then p ts else q ts

-- a lexeme of the sort
unfoldable pub tok : Sort → Reads (Unit {0})
tok sort = λ ts. if sees sort ts then Some (tt, drop 1 ts) else None

-- what comes after a lexeme of the sort
abbrev pub past : {A : Type 0} → Sort → Reads A → Reads A
past sort p = tok sort >> p

-- the lexeme itself, where it is of the sort
unfoldable pub one : Sort → Reads Lexeme
one sort [] = None
one sort (t ∷ ts) = if same_sort t.sort sort then Some (t, ts) else None

-- whether there is a value
abbrev pub is_there : {A : Type 0} → Option A → Bool
is_there (Some x) = true
is_there None = false

-- whether the table gives the sort a meaning
abbrev pub has : {A : Type 0} → (Sort → Option A) → Sort → Bool
has table a = is_there (table a)

-- the meaning of the first lexeme where it has one
abbrev pub word_from : {A : Type 0} → Option A → Reads A
word_from (Some x) = λ ts. got x (drop 1 ts)
word_from None = refuse

-- a lexeme with a meaning
unfoldable pub worded : {A : Type 0} → (Sort → Option A) → Reads A
worded table = λ ts. word_from (table (sort_at ts)) ts

-- parts for as long as the test holds, at most so many
abbrev pub more_if_from : {A : Type 0} → (List Lexeme → Bool) → Reads A → ℕ → Reads (List A)
more_if_from h p zero = pure []
more_if_from h p (suc n) = choose_if h (do x ← p; xs ← more_if_from h p n; pure (x ∷ xs)) (pure [])

-- parts for as long as the test holds; the count of lexemes is turns enough
unfoldable pub more_if : {A : Type 0} → (List Lexeme → Bool) → Reads A → Reads (List A)
more_if h p = λ ts. more_if_from h p (length ts) ts

-- parts for as long as one of these sorts comes
abbrev pub more : {A : Type 0} → (Sort → Bool) → Reads A → Reads (List A)
more h p = more_if (λ ts. h (sort_at ts)) p

-- in parentheses
abbrev pub single : {A : Type 0} → Reads A → Reads A
single p = do tok k.LeftParen; x ← p; tok k.RightParen; pure x

-- two in parentheses, with a comma between them
abbrev pub pair : {A : Type 0} → Reads A → Reads (A × A)
pair p = do tok k.LeftParen; x ← p; tok k.Comma; y ← p; tok k.RightParen; pure (x, y)

-- a part, and then further ones for as long as one of these sorts comes
abbrev pub joined : {A : Type 0} → Reads A → (Sort → Bool) → Reads A → Reads (List A)
joined p h q = do x ← p; xs ← more h q; pure (x ∷ xs)

-- a part, and then further ones for as long as the test holds
abbrev pub joined_if : {A : Type 0} → Reads A → (List Lexeme → Bool) → Reads A → Reads (List A)
joined_if p h q = do x ← p; xs ← more_if h q; pure (x ∷ xs)

-- a part where one of these sorts comes
abbrev pub optional : {A : Type 0} → (Sort → Bool) → Reads A → Reads (Option A)
optional h p = choose h (do x ← p; pure (Some x)) (pure None)

-- what a reading function returned is what is read, unless memory ran out
abbrev pub Gives : {A : Type 0} → Result (A × Bor (List Lexeme)) Refusal → Outcome A → Type 0
Gives (Ok x) read = read ≡ Some (x.0, x.1.now)
Gives (Err r.NoMemory) read = Unit {0}
Gives (Err r.Syntax) read = read ≡ None

-- the same of a function that returns the lexemes alone
abbrev pub Passes : Result (Bor (List Lexeme)) Refusal → Outcome (Unit {0}) → Type 0
Passes (Ok rest) read = read ≡ Some (tt, rest.now)
Passes (Err r.NoMemory) read = Unit {0}
Passes (Err r.Syntax) read = read ≡ None

-- with the parts that were read before
abbrev pub with_front : {A : Type 0} → List A → Outcome (List A) → Outcome (List A)
with_front xs read = and_then read (λ ys. pure (xs ++ ys))
