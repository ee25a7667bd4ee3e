-- Printed words have the form of printed tokens.
use Rattle.std.proofs.Common.{◌≡◌, ◌+◌, ◌-◌, ◌&&◌, ◌||◌, ◌==◌, inl, inr, ℕ, Bool, true, false, if◌then◌else◌, List, [], ◌∷◌, ◌++◌, length, take, drop, slice_index, get_or, Option, Some, None, refl, sym, ap, ◌∙◌, subst, append_assoc, append-nil, length-append, eqb-true, arith}
use Rattle.std.proofs.Math.Seq.{get_or-append_seam}
use Rattle.std.proofs.lemmas.Slice.Eq.{bytes_eq-Decides}
use Rattle.std.specs.Str.{bytes_eq, str_to_ascii_uppercase}
use Rattle.og_lex.specs.Grammar.{bytes_of}
use Rattle.og_lex.specs.declared.symbol.Symbol.{Symbol}
use Rattle.og_lex.specs.declared.token.Token.{Token}
use Rattle.og_value.specs.Words.{folded}
use Rattle.og_syntax.specs.declared.lexeme.Sort.{Sort}
use Rattle.og_syntax.specs.declared.lexeme.Sort.TheVariants as k
use Rattle.og_syntax.specs.Lexemes.{is, same_sort}
use Rattle.og_syntax.specs.Words.{sort_of_word, word_of}
use Rattle.og_syntax.proofs.EverySort.{everywhere, every_sort}
use Rattle.og_syntax.proofs.Exact.{implies, so, left_of, right_of}
use Rattle.og_print.specs.Words.{Word, Plain, Named, Whole, Quoted, sort_text, word_text, word_sort, blank_after}
use Rattle.og_print.specs.Printed.{in_case, IsSpelled, blank_of, IsLaidOut}
use Rattle.og_print.proofs.Spelling.{is_inner}
use Rattle.og_print.proofs.Lexes.{Comes, symbol_of, kind_by, word_kind, spelled_sort}
use Rattle.og_print.proofs.PrintedTokens.{text_of, tokens_from, AllCome, taken}

-- whether a sort that is no symbol is spelled in its case
abbrev pub is_in_case : Sort → Option Symbol → Bool
is_in_case a (Some symbol) = true
is_in_case a None = bytes_eq (sort_text a) (in_case (sort_text a))

-- whether a sort is spelled as it is printed, and has the blank of its token
abbrev pub has_form : Sort → Bool
has_form a = is_in_case a (symbol_of a) && (blank_after a == blank_of (kind_by (symbol_of a)))

-- each sort with a spelling is so
all_formed : everywhere (λ a. implies (is_inner a || is k.Semicolon a) (has_form a)) ≡ true
unfolding same_sort sort_of_word word_of
all_formed = refl

-- a sort with a spelling is so
formed : (a : Sort) → Comes (Plain a) → has_form a ≡ true
formed a h = so (is_inner a || is k.Semicolon a) (has_form a) (every_sort (λ a. implies (is_inner a || is k.Semicolon a) (has_form a)) all_formed a) (spelled_sort a h)

-- a reserved word or a symbol is spelled as it is printed
plain_spelled : (a : Sort) (o : Option Symbol) → is_in_case a o ≡ true → IsSpelled (kind_by o) (sort_text a)
plain_spelled a (Some symbol) e = tt
plain_spelled a None e = (bytes_eq-Decides (sort_text a) (in_case (sort_text a))).0 e

-- a name is in lower case
name_spelled : (name : List ℕ) → sort_of_word name ≡ k.Name → folded name ≡ name → name ≡ in_case name
unfolding same_sort
name_spelled name e f = sym f ∙ ap (λ a. if is k.Name a then folded name else str_to_ascii_uppercase name) (sym e)

-- a word is spelled as it is printed
word_spelled : (w : Word) → Comes w → IsSpelled (word_kind w) (word_text w)
word_spelled (Word.Plain a) h = plain_spelled a (symbol_of a) (left_of (is_in_case a (symbol_of a)) _ (formed a h))
word_spelled (Word.Named name) (inl h) = name_spelled name h.2 h.1
word_spelled (Word.Named name) (inr h) = absurd (other h)
  where
    other : Named name ≡ Plain k.Semicolon → ⊥
    other e = cc
word_spelled (Word.Whole n) h = refl
word_spelled (Word.Quoted z) h = tt

-- the blank after a word is that after its token
word_blank : (w : Word) → Comes w → blank_after (word_sort w) ≡ blank_of (word_kind w)
word_blank (Word.Plain a) h = eqb-true (blank_after a) (blank_of (kind_by (symbol_of a))) (right_of (is_in_case a (symbol_of a)) _ (formed a h))
word_blank (Word.Named name) h = refl
word_blank (Word.Whole n) h = refl
word_blank (Word.Quoted z) h = refl

-- printed words have the form
pub laid_out : (script before : List ℕ) (ws : List Word) → script ≡ before ++ text_of ws → AllCome ws → IsLaidOut script (length before) (tokens_from (length before) ws)
laid_out script before [] e h = ap length (e ∙ append-nil before)
laid_out script before (w ∷ ws) e h =
    let z = word_text w in
    let b = blank_after (word_sort w) in
    let token : Token = record { kind = word_kind w; start = length before; end = length before + length z } in
    let next : script ≡ (before ++ z ++ b ∷ []) ++ text_of ws = e ∙ sym (append_assoc before z (b ∷ text_of ws)) ∙ sym (append_assoc (before ++ z) (b ∷ []) (text_of ws)) in
    let count : length (before ++ z ++ b ∷ []) ≡ length before + length z + 1 = omega (arith, length-append (before ++ z) (b ∷ []), length-append before z) in
    let there : bytes_of script token ≡ z = ap (λ s. take (length before + length z - length before) (drop (length before) s)) e ∙ taken before z (b ∷ text_of ws) in
    let seam : slice_index script (length before + length z) ≡ b = ap (λ s. slice_index s (length before + length z)) (e ∙ sym (append_assoc before z (b ∷ text_of ws)))
    ∙ ap (λ n. slice_index ((before ++ z) ++ b ∷ text_of ws) n) (sym (length-append before z)) ∙ get_or-append_seam (before ++ z) b (text_of ws) 0 in (
      refl,
      subst (IsSpelled (word_kind w)) (sym there) (word_spelled w h.0),
      seam ∙ word_blank w h.0,
      subst (λ at. IsLaidOut script at (tokens_from at ws)) count (laid_out script (before ++ z ++ b ∷ []) ws next h.1),
    )
