-- Quotes that are doubled.
use Rattle.std.proofs.Common.{◌≡◌, ◌+◌, ◌++◌, ◌<◌, ℕ, Bool, true, false, cond, List, [], ◌∷◌, length, get_or, take, refl, sym, ap, ◌∙◌, append_assoc}
use Rattle.std.proofs.lemmas.List.{take_more}
use Rattle.og_lex.specs.Bytes.{is_quote, doubled}

-- those of a text are those of its front, then those of its rest
doubled-append : (xs ys : List ℕ) → doubled (xs ++ ys) ≡ doubled xs ++ doubled ys
doubled-append [] ys = refl
doubled-append (b ∷ xs) ys = by (is_quote b) (doubled-append xs ys)
  where
    by : (t : Bool) → doubled (xs ++ ys) ≡ doubled xs ++ doubled ys
        → cond t (39 ∷ 39 ∷ doubled (xs ++ ys)) (b ∷ doubled (xs ++ ys)) ≡ cond t (39 ∷ 39 ∷ doubled xs) (b ∷ doubled xs) ++ doubled ys
    by true e = ap (λ z. 39 ∷ 39 ∷ z) e
    by false e = ap (λ z. b ∷ z) e

-- one more byte of a text behind a quote
pub doubled-more : (written before text : List ℕ) (i : ℕ) → i < length text → written ≡ before ++ 39 ∷ doubled (take i text)
    → written ++ doubled (get_or text i 0 ∷ []) ≡ before ++ 39 ∷ doubled (take (i + 1) text)
doubled-more written before text i within so_far =
    ap (λ z. z ++ doubled (get_or text i 0 ∷ [])) so_far
    ∙ append_assoc before (39 ∷ doubled (take i text)) (doubled (get_or text i 0 ∷ []))
    ∙ ap (λ z. before ++ 39 ∷ z) (sym (ap doubled (take_more text i 0 within) ∙ doubled-append (take i text) (get_or text i 0 ∷ [])))
