-- The turns of a loop that reads parts.
use Rattle.std.proofs.Common.{◌≡◌, ℕ, zero, suc, Bool, true, false, if◌then◌else◌, List, [], ◌∷◌, ◌++◌, Some, None, Err, refl, sym, ap, ◌∙◌, append_assoc, append-nil}
use Rattle.og_syntax.specs.declared.lexeme.Lexeme.{Lexeme}
use Rattle.og_syntax.specs.declared.refusal.Refusal.{Refusal}
use Rattle.og_syntax.specs.declared.refusal.Refusal.TheVariants as r
use Rattle.og_syntax.specs.Reading as reading
use Rattle.og_syntax.specs.Reading.{Reads, Outcome, got, and_then, more_if_from, with_front, Gives}

-- the parts after a part
abbrev turn : {A : Type 0} → (List Lexeme → Bool) → Reads A → ℕ → A → Reads (List A)
turn h q n x = reading.bind (more_if_from h q n) (λ xs. reading.pure (x ∷ xs))

-- a part goes to the parts before it
in_front : {A : Type 0} (front : List A) (x : A) (o : Outcome (List A)) → with_front (front ++ x ∷ []) o ≡ with_front front (and_then o (λ xs. reading.pure (x ∷ xs)))
in_front front x (Some y) = ap (λ z. got z y.1) (append_assoc front (x ∷ []) y.0)
in_front front x None = refl

-- a turn where a part begins
one_turn : {A : Type 0} (h : List Lexeme → Bool) (q : Reads A) (front : List A) (n m : ℕ) (ts : List Lexeme)
    → n ≡ suc m → h ts ≡ true → with_front front (more_if_from h q n ts) ≡ with_front front (and_then (q ts) (turn h q m))
one_turn h q front n m ts e is =
    ap (λ k. with_front front (more_if_from h q k ts)) e
    ∙ ap (λ b. with_front front (if b then and_then (q ts) (turn h q m) else got [] ts)) is

-- the invariant after one more part
pub one_more : {A : Type 0} (h : List Lexeme → Bool) (q : Reads A) (front now : List A) (n m : ℕ) (ts left : List Lexeme) (x : A) (whole : Outcome (List A))
    → now ≡ front ++ x ∷ [] → n ≡ suc m → h ts ≡ true → q ts ≡ got x left
    → with_front front (more_if_from h q n ts) ≡ whole → with_front now (more_if_from h q m left) ≡ whole
one_more h q front now n m ts left x whole e f is read before =
    ap (λ xs. with_front xs (more_if_from h q m left)) e
    ∙ in_front front x (more_if_from h q m left)
    ∙ sym (ap (λ o. with_front front (and_then o (turn h q m))) read)
    ∙ sym (one_turn h q front n m ts f is)
    ∙ before

-- what is given where no turn is left
pub no_turn : {A : Type 0} (h : List Lexeme → Bool) (q : Reads A) (front : List A) (n : ℕ) (ts : List Lexeme) (whole : Outcome (List A))
    → n ≡ 0 → with_front front (more_if_from h q n ts) ≡ whole → whole ≡ got front ts
no_turn h q front n ts whole e before =
    sym before ∙ ap (λ k. with_front front (more_if_from h q k ts)) e ∙ ap (λ xs. got xs ts) (append-nil front)

-- what is given where no part begins
pub no_part : {A : Type 0} (h : List Lexeme → Bool) (q : Reads A) (front : List A) (n : ℕ) (ts : List Lexeme) (whole : Outcome (List A))
    → h ts ≡ false → with_front front (more_if_from h q n ts) ≡ whole → whole ≡ got front ts
no_part h q front zero ts whole none before = no_turn h q front zero ts whole refl before
no_part h q front (suc n) ts whole none before =
    sym before
    ∙ ap (λ b. with_front front (if b then and_then (q ts) (turn h q n) else got [] ts)) none
    ∙ ap (λ xs. got xs ts) (append-nil front)

-- what is given where a part is not read
pub not_read : {A : Type 0} (h : List Lexeme → Bool) (q : Reads A) (front : List A) (n m : ℕ) (ts : List Lexeme) (whole : Outcome (List A)) (why : Refusal)
    → n ≡ suc m → h ts ≡ true → with_front front (more_if_from h q n ts) ≡ whole → Gives {A = A} (Err why) (q ts) → Gives {A = List A} (Err why) whole
not_read h q front n m ts whole r.NoMemory e is before g = tt
not_read h q front n m ts whole r.Syntax e is before g =
    sym before ∙ one_turn h q front n m ts e is ∙ ap (λ o. with_front front (and_then o (turn h q m))) g

-- what the turns of a loop need
pub ruleset turns = (one_more, no_turn, no_part, not_read)
