-- The tokens of a script, piece by piece.
use Rattle.std.proofs.Common.{◌≡◌, ℕ, zero, suc, ◌+◌, ◌-◌, ◌<◌, ◌≤◌, List, [], ◌∷◌, ◌++◌, length, drop, refl, ap, sym, ◌∙◌, append_assoc, arith, Ok, Err}
use Rattle.og_lex.specs.declared.front.Fault.{Fault}
use Rattle.og_lex.specs.declared.front.Fault.TheVariants as faults
use Rattle.og_lex.specs.declared.front.Front.TheVariants.{Skip, Piece, Bad}
use Rattle.og_lex.specs.declared.token.Token.{Token}
use Rattle.og_lex.specs.declared.token.TokenKind.{TokenKind}
use Rattle.og_lex.specs.Front.{Lexed, front, lex_from, with_front, go_on, refusal_at, IsErrorOf}

pub with_front-nil : (r : Lexed) → with_front [] r ≡ r
with_front-nil (Ok tokens) = refl
with_front-nil (Err e) = refl

pub with_front-append : (xs ys : List Token) (r : Lexed) → with_front xs (with_front ys r) ≡ with_front (xs ++ ys) r
with_front-append xs ys (Ok tokens) = ap Ok (sym (append_assoc xs ys tokens))
with_front-append xs ys (Err e) = refl

-- what is left of a token is passed over
pub lex_from-left : (at left : ℕ) (z : List ℕ) → left ≤ length z → lex_from at left z ≡ lex_from (at + left) 0 (drop left z)
lex_from-left at zero z h = ap (λ k. lex_from k 0 z) (omega arith)
lex_from-left at (suc left) [] h = absurd (omega (arith, h))
lex_from-left at (suc left) (b ∷ z) h =
    lex_from-left (at + 1) left z (omega (arith, h)) ∙ ap (λ k. lex_from k 0 (drop left z)) (omega arith)

-- the bytes after the first of a piece
pub lex_from-piece : (at len b : ℕ) (z : List ℕ) → 1 ≤ len → len ≤ length (b ∷ z)
    → lex_from (at + 1) (len - 1) z ≡ lex_from (at + len) 0 (drop len (b ∷ z))
lex_from-piece at zero b z some h = absurd (omega (arith, some))
lex_from-piece at (suc len) b z some h =
    let e : suc len - 1 ≡ len = omega arith in
    rw e (lex_from-left (at + 1) len z (omega (arith, h)) ∙ ap (λ k. lex_from k 0 (drop len z)) (omega arith))

pub lex_from-skip : (at len : ℕ) (z : List ℕ) → 0 < length z → front z ≡ Skip len → 1 ≤ len → len ≤ length z
    → lex_from at 0 z ≡ lex_from (at + len) 0 (drop len z)
lex_from-skip at len [] more e some h = absurd (omega (arith, more))
lex_from-skip at len (b ∷ z) more e some h =
    ap (λ f. go_on f at (λ n. lex_from (at + 1) (n - 1) z)) e ∙ lex_from-piece at len b z some h

-- the token of a piece
abbrev pub token_at : TokenKind → ℕ → ℕ → Token
token_at kind at len = record { kind = kind; start = at; end = at + len }

pub lex_from-token : (at len : ℕ) (kind : TokenKind) (z : List ℕ) → 0 < length z → front z ≡ Piece kind len → 1 ≤ len → len ≤ length z
    → lex_from at 0 z ≡ with_front (token_at kind at len ∷ []) (lex_from (at + len) 0 (drop len z))
lex_from-token at len kind [] more e some h = absurd (omega (arith, more))
lex_from-token at len kind (b ∷ z) more e some h =
    ap (λ f. go_on f at (λ n. lex_from (at + 1) (n - 1) z)) e
    ∙ ap (with_front (token_at kind at len ∷ [])) (lex_from-piece at len b z some h)

pub lex_from-bad : (at : ℕ) (fault : Fault) (z : List ℕ) → 0 < length z → front z ≡ Bad fault → lex_from at 0 z ≡ Err (refusal_at fault at)
lex_from-bad at fault [] more e = absurd (omega (arith, more))
lex_from-bad at fault (b ∷ z) more e = ap (λ f. go_on f at (λ n. lex_from (at + 1) (n - 1) z)) e

pub IsErrorOf-refusal_at : (at : ℕ) (fault : Fault) (r : Lexed) → r ≡ Err (refusal_at fault at) → IsErrorOf (refusal_at fault at) r
IsErrorOf-refusal_at at faults.BadByte r e = e
IsErrorOf-refusal_at at faults.OpenText r e = e
IsErrorOf-refusal_at at faults.NumberRange r e = e
