-- Pieces of a script, counted.
use Rattle.std.proofs.Common.{◌≡◌, ◌⊎◌, inl, inr, ◌++◌, ◌+◌, ◌==◌, ◌≤◌, ◌-◌, ℕ, suc, false, List, [], ◌∷◌, Some, drop, length, slice_get, refl, sym, ap, ◌∙◌, append_assoc, arith, length-append}
use Rattle.og_lex.specs.Grammar.{Reads}
use Rattle.og_lex.specs.Endings.{EndsStatement}
use Rattle.og_lex.specs.declared.token.Token.{Token}
use Rattle.og_lex.proofs.Parts.{reads_on}
use Rattle.og_syntax.specs.declared.lexeme.Lexeme.{Lexeme}
use Rattle.og_parse.specs.Pieces.{piece_of}
use Rattle.og_parse.specs.Script.{pieces}
use Rattle.og_parse.specs.Tokens.{lexemes_of}
use Rattle.og_parse.proofs.Scripts.{cut_by}
use Rattle.og_parse.proofs.Parts.{cut-semicolon}
use Rattle.og_locate.specs.Pieces.{IsPieceAt}

-- ---- the pieces of one part

-- the first one
pub first_is : (script : List ℕ) (rest : List Token) (p : List Lexeme) → (length rest == 0) ≡ false → p ≡ piece_of (lexemes_of script rest) → slice_get (pieces (lexemes_of script rest)) 0 ≡ Some p
first_is script rest p some front = ap (λ ps. slice_get ps 0) (cut_by script rest (drop (length p) rest) p (length p) some front refl refl)

-- a later one is one of those behind the first
pub later_is : (script : List ℕ) (rest after : List Token) (p : List Lexeme) (n left : ℕ) → (length rest == 0) ≡ false → p ≡ piece_of (lexemes_of script rest) → n ≡ length p → after ≡ drop n rest
    → slice_get (pieces (lexemes_of script rest)) (suc left) ≡ slice_get (pieces (lexemes_of script after)) left
later_is script rest after p n left some front len back = ap (λ ps. slice_get ps (suc left)) (cut_by script rest after p n some front len back)

-- and there is one more than those
pub one_more : (script : List ℕ) (rest after : List Token) (p : List Lexeme) (n : ℕ) → (length rest == 0) ≡ false → p ≡ piece_of (lexemes_of script rest) → n ≡ length p → after ≡ drop n rest
    → length (pieces (lexemes_of script rest)) ≡ suc (length (pieces (lexemes_of script after)))
one_more script rest after p n some front len back = ap length (cut_by script rest after p n some front len back)

-- ---- parts one after the other

-- the element behind a list
behind : {X : Type 0} (xs ys : List X) (i : ℕ) → slice_get (xs ++ ys) (length xs + i) ≡ slice_get ys i
behind [] ys i = ap (slice_get ys) (omega arith)
behind (x ∷ xs) ys i =
    let more : suc (length xs) + i ≡ suc (length xs + i) = omega arith in
    ap (slice_get (x ∷ xs ++ ys)) more ∙ behind xs ys i

-- what was read is nothing, or ends a statement, or is all
pub record IsPassed (script : List ℕ) (at passed : ℕ) : Type 0 where
  pub done : List Token
  pub read : Reads 0 script done at (drop at script)
  pub ends : (at ≡ length script) ⊎ ((done ≡ []) ⊎ EndsStatement done)
  pub count : length (pieces (lexemes_of script done)) ≡ passed

-- at first nothing is read
pub passed_none : (script : List ℕ) → IsPassed script 0 0
passed_none script = record { done = []; read = Reads.stops 0 script; ends = inr (inl refl); count = refl }

-- the pieces of one more part stand behind those before it
cut-more : (script : List ℕ) (done tokens : List Token) → (done ≡ []) ⊎ EndsStatement done → pieces (lexemes_of script (done ++ tokens)) ≡ pieces (lexemes_of script done) ++ pieces (lexemes_of script tokens)
cut-more script done tokens (inl e) = ap (λ ts. pieces (lexemes_of script (ts ++ tokens))) e ∙ sym (ap (λ ts. pieces (lexemes_of script ts) ++ pieces (lexemes_of script tokens)) e)
cut-more script done tokens (inr ends) = cut-semicolon script done tokens ends

-- a list that ends a statement does so behind others
ends-more : (done tokens : List Token) → EndsStatement tokens → EndsStatement (done ++ tokens)
ends-more done tokens (before, last, e, is) = (done ++ before, last, ap (λ ts. done ++ ts) e ∙ sym (append_assoc done before (last ∷ [])), is)

before-end : (script : List ℕ) (at : ℕ) (done : List Token) → (suc at ≤ length script) → (at ≡ length script) ⊎ ((done ≡ []) ⊎ EndsStatement done) → (done ≡ []) ⊎ EndsStatement done
before-end script at done within (inl e) = absurd (omega (arith, e, within))
before-end script at done within (inr h) = h

-- the piece stands in the next part
pub found_in : (script : List ℕ) (at end number passed left : ℕ) (tokens : List Token) (piece : List Lexeme) → suc at ≤ length script → IsPassed script at passed → passed + left ≡ number - 1
    → Reads at (drop at script) tokens end (drop end script) → (end ≡ length script) ⊎ EndsStatement tokens → slice_get (pieces (lexemes_of script tokens)) left ≡ Some piece → IsPieceAt script number piece
found_in script at end number passed left tokens piece within p e read ends found =
    let cut = cut-more script p.done tokens (before-end script at p.done within p.ends) in (
      p.done ++ tokens,
      end,
      reads_on p.read read,
      more ends,
      ap (slice_get (pieces (lexemes_of script (p.done ++ tokens)))) (sym e ∙ ap (λ n. n + left) (sym p.count))
          ∙ (ap (λ ps. slice_get ps (length (pieces (lexemes_of script p.done)) + left)) cut
          ∙ (behind (pieces (lexemes_of script p.done)) (pieces (lexemes_of script tokens)) left
          ∙ found)),
    )
  where
    more : (end ≡ length script) ⊎ EndsStatement tokens → (end ≡ length script) ⊎ EndsStatement (p.done ++ tokens)
    more (inl e) = inl e
    more (inr h) = inr (ends-more p.done tokens h)

-- or it stands behind it
pub passed_more : (script : List ℕ) (at end passed : ℕ) (tokens : List Token) → suc at ≤ length script → IsPassed script at passed
    → Reads at (drop at script) tokens end (drop end script) → (end ≡ length script) ⊎ EndsStatement tokens → IsPassed script end (passed + length (pieces (lexemes_of script tokens)))
passed_more script at end passed tokens within p read ends = record {
  done = p.done ++ tokens;
  read = reads_on p.read read;
  ends = more ends;
  count = ap length (cut-more script p.done tokens (before-end script at p.done within p.ends)) ∙ (length-append (pieces (lexemes_of script p.done)) (pieces (lexemes_of script tokens)) ∙ ap (λ n. n + length (pieces (lexemes_of script tokens))) p.count);
}
  where
    more : (end ≡ length script) ⊎ EndsStatement tokens → (end ≡ length script) ⊎ ((p.done ++ tokens ≡ []) ⊎ EndsStatement (p.done ++ tokens))
    more (inl e) = inl e
    more (inr h) = inr (inr (ends-more p.done tokens h))
