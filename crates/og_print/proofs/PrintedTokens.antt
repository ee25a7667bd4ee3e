-- The tokens of printed words, and the lexemes of any script.
use Rattle.std.proofs.Common.{◌≡◌, ◌+◌, ◌-◌, ◌==◌, ◌||◌, inl, inr, ℕ, ℤ, pos, Bool, true, false, not, if◌then◌else◌, List, [], ◌∷◌, ◌++◌, length, take, drop, Option, Some, None, refl, sym, ap, ap₂, ◌∙◌, subst, append_assoc, append-nil, length-append, eqb-true, arith}
use Rattle.std.proofs.lemmas.Int.{ints}
use Rattle.std.specs.Bool.{⊤}
use Rattle.std.specs.List.{list_all}
use Rattle.std.specs.Str.{str_eq_ignore_ascii_case, IsUtf8}
use Rattle.og_lex.specs.Bytes.{IsIn64, quoted}
use Rattle.og_lex.specs.Grammar.{IsToken, Reads}
use Rattle.og_lex.specs.declared.symbol.Symbol.{Symbol}
use Rattle.og_lex.specs.declared.symbol.Symbol.TheVariants as symbols
use Rattle.og_lex.specs.declared.token.Token.{Token}
use Rattle.og_lex.specs.declared.token.TokenKind.{TokenKind}
use Rattle.og_lex.specs.declared.token.TokenKind.TheVariants as kinds
use Rattle.og_lex.proofs.Runs.{take-joined, drop-joined}
use Rattle.og_lex.proofs.Tokens.{quoted-same}
use Rattle.og_value.specs.Words.{is_word, folded}
use Rattle.og_syntax.specs.declared.lexeme.Sort.{Sort}
use Rattle.og_syntax.specs.declared.lexeme.Sort.TheVariants as k
use Rattle.og_syntax.specs.Lexemes.{is, same_sort}
use Rattle.og_syntax.specs.Spans.{spelling, IsContent}
use Rattle.og_syntax.proofs.Exact.{left_of, right_of, is_sort, not_true}
use Rattle.og_syntax.specs.Words.{reserved, sort_in, sort_of_word}
use Rattle.og_parse.specs.Tokens.{sort_of_symbol, at_token, lexeme_by, lexeme_of, lexemes_of}
use Rattle.og_print.specs.Words.{Word, Plain, Named, Whole, Quoted, sort_text, word_text, word_sort, blank_after, with_word, with_words}
use Rattle.og_print.proofs.Spelling.{Spells, SpellAll, IsProper, AreProper}
use Rattle.og_print.proofs.Lexes.{Comes, symbol_of, kind_by, word_kind, is_read, read_sort, spelled_sort, word_token_of, blank}

-- ---- texts

-- the bytes of words, with a blank after each
abbrev pub text_of : List Word → List ℕ
text_of [] = []
text_of (w ∷ ws) = word_text w ++ blank_after (word_sort w) ∷ text_of ws

-- bytes with words after them
pub with_words-is : (z : List ℕ) (ws : List Word) → with_words z ws ≡ z ++ text_of ws
with_words-is z [] = sym (append-nil z)
with_words-is z (w ∷ ws) =
    with_words-is (with_word z w) ws
    ∙ append_assoc (z ++ word_text w) (blank_after (word_sort w) ∷ []) (text_of ws) ∙ append_assoc z (word_text w) (blank_after (word_sort w) ∷ text_of ws)

-- the tokens of words from a place on
abbrev pub tokens_from : ℕ → List Word → List Token
tokens_from at [] = []
tokens_from at (w ∷ ws) = record { kind = word_kind w; start = at; end = at + length (word_text w) } ∷ tokens_from (at + length (word_text w) + 1) ws

-- each of the words is one of a printed script
abbrev pub AllCome : List Word → Type 0
AllCome [] = ⊤
AllCome (w ∷ ws) = Comes w × AllCome ws

-- the bytes of words are lexed as these words
pub words_read : (at : ℕ) (ws : List Word) → AllCome ws → Reads at (text_of ws) (tokens_from at ws) (at + length (text_of ws)) []
words_read at [] h = subst (λ end. Reads at [] [] end []) (last at) (Reads.stops at [])
  where
    last : (at : ℕ) → at ≡ at + 0
    last at = omega arith
words_read at (w ∷ ws) h =
    let z = word_text w in
    let b = blank_after (word_sort w) in
    let more = words_read (at + length z + 1) ws h.1 in
    let end : at + length z + 1 + length (text_of ws) ≡ at + length (z ++ b ∷ text_of ws) = omega (arith, length-append z (b ∷ text_of ws)) in
    subst (λ end. Reads at (text_of (w ∷ ws)) (tokens_from at (w ∷ ws)) end []) end
    (Reads.past_token at (word_kind w) z (b ∷ text_of ws) (tokens_from (at + length z + 1) ws) (at + length z + 1 + length (text_of ws)) [] (word_token_of w (text_of ws) h.0)
    (Reads.past_blank (at + length z) b (text_of ws) (tokens_from (at + length z + 1) ws) (at + length z + 1 + length (text_of ws)) [] (blank (word_sort w)) more))

-- ---- spellings

-- the bytes at a place
pub taken : (before z rest : List ℕ) → take (length before + length z - length before) (drop (length before) (before ++ (z ++ rest))) ≡ z
taken before z rest =
    let count : length before + length z - length before ≡ length z = omega arith in
    ap₂ (λ n y. take n y) count (drop-joined before (z ++ rest)) ∙ take-joined z rest

-- the bytes of a lexeme at a place
spelling_at : (script before z rest : List ℕ) (token : Token) (sort : Sort) (n : ℤ) → script ≡ before ++ (z ++ rest) → token.start ≡ length before → token.end ≡ length before + length z
    → spelling script (at_token token sort n) ≡ z
unfolding spelling
spelling_at script before z rest token sort n e f g =
    ap (λ s. take (token.end - token.start) (drop token.start s)) e
    ∙ ap₂ (λ a b. take (b - a) (drop a (before ++ (z ++ rest)))) f g ∙ taken before z rest

-- the content of a text at a place
content_there : (script before z rest : List ℕ) (token : Token) → script ≡ before ++ (quoted z ++ rest) → token.start ≡ length before → token.end ≡ length before + length (quoted z)
    → IsContent script (at_token token k.Quoted (pos 0)) z
unfolding spelling
content_there script before z rest token e f g = record {
  within = omega (arith, ap length e, g, length-append before (quoted z ++ rest), length-append (quoted z) rest);
  between = spelling_at script before (quoted z) rest token k.Quoted (pos 0) e f g;
}

-- ---- lexemes that spell words

-- the lexeme of a reserved word or a symbol
spells_sort : (script : List ℕ) (token : Token) (a : Sort) (o : Option Symbol) → is_read a o ≡ true → spelling script (at_token token k.Name (pos 0)) ≡ sort_text a → (lexeme_by script token (kind_by o)).sort ≡ a
spells_sort script token a (Some symbol) e h = is_sort (sort_of_symbol symbol) a (right_of _ (same_sort (sort_of_symbol symbol) a) (right_of _ _ e))
spells_sort script token a None e h = ap sort_of_word h ∙ is_sort (sort_of_word (sort_text a)) a (right_of _ (same_sort (sort_of_word (sort_text a)) a) (right_of (is_word (sort_text a)) _ e))

-- the lexeme of a word at a place
spells_word : (script before rest : List ℕ) (w : Word) (token : Token) → script ≡ before ++ (word_text w ++ rest) → token.kind ≡ word_kind w → token.start ≡ length before → token.end ≡ length before + length (word_text w) → Comes w
    → Spells script (lexeme_of script token) w
unfolding lexeme_of
spells_word script before rest (Word.Plain a) token e kind f g h =
    ap (λ kind. (lexeme_by script token kind).sort) kind
    ∙ spells_sort script token a (symbol_of a) (read_sort a (spelled_sort a h)) (spelling_at script before (sort_text a) rest token k.Name (pos 0) e f g)
spells_word script before rest (Word.Named name) token e kind f g (inl h) =
    let s = spelling_at script before name rest token k.Name (pos 0) e f g in
    let there = spelling_at script before name rest token (sort_of_word (spelling script (at_token token k.Name (pos 0)))) (pos 0) e f g in
    subst (λ kind. Spells script (lexeme_by script token kind) (Named name)) (sym kind)
    (ap sort_of_word s ∙ h.2, (ap is_word there ∙ h.0, sym h.1 ∙ ap folded (sym there)))
spells_word script before rest (Word.Named name) token e kind f g (inr h) = absurd (other h)
  where
    other : Named name ≡ Plain k.Semicolon → ⊥
    other e = cc
spells_word script before rest (Word.Whole n) token e kind f g h = subst (λ kind. Spells script (lexeme_by script token kind) (Whole n)) (sym kind) (refl, refl)
spells_word script before rest (Word.Quoted z) token e kind f g h =
    subst (λ kind. Spells script (lexeme_by script token kind) (Quoted z)) (sym kind)
    (refl, content_there script before z rest token e f g)

-- the lexemes of printed words spell these words
pub words_spelled : (script before : List ℕ) (ws : List Word) → script ≡ before ++ text_of ws → AllCome ws → SpellAll script (lexemes_of script (tokens_from (length before) ws)) ws
words_spelled script before [] e h = tt
words_spelled script before (w ∷ ws) e h =
    let z = word_text w in
    let b = blank_after (word_sort w) in
    let next : script ≡ (before ++ z ++ b ∷ []) ++ text_of ws = e ∙ sym (append_assoc before z (b ∷ text_of ws)) ∙ sym (append_assoc (before ++ z) (b ∷ []) (text_of ws)) in
    let count : length (before ++ z ++ b ∷ []) ≡ length before + length z + 1 = omega (arith, length-append (before ++ z) (b ∷ []), length-append before z) in (
      spells_word script before (b ∷ text_of ws) w (record { kind = word_kind w; start = length before; end = length before + length z }) e refl refl refl h.0,
      subst (λ at. SpellAll script (lexemes_of script (tokens_from at ws)) ws) count (words_spelled script (before ++ z ++ b ∷ []) ws next h.1),
    )

-- ---- the lexemes of any script

-- a reserved word is no text
no_text_in : (entries : List (List ℕ × Sort)) (z : List ℕ) → list_all (λ e. not (is k.Quoted e.1)) entries ≡ true → is k.Quoted (sort_in entries z) ≡ false
unfolding same_sort
no_text_in [] z e = refl
no_text_in (entry ∷ entries) z e =
    by (str_eq_ignore_ascii_case entry.0 z) (not_true (is k.Quoted entry.1) (left_of (not (is k.Quoted entry.1)) _ e)) (no_text_in entries z (right_of (not (is k.Quoted entry.1)) _ e))
  where
    by : (b : Bool) → is k.Quoted entry.1 ≡ false → is k.Quoted (sort_in entries z) ≡ false → is k.Quoted (if b then entry.1 else sort_in entries z) ≡ false
    by true f g = f
    by false f g = g

-- no word is a text
no_text : (z : List ℕ) → sort_of_word z ≡ k.Quoted → ⊥
unfolding sort_of_word same_sort
no_text z e =
    let no : is k.Quoted (sort_in reserved z) ≡ false = no_text_in reserved z refl in
    let yes_ : is k.Quoted (sort_in reserved z) ≡ true = ap (is k.Quoted) e in
    let both : true ≡ false = sym yes_ ∙ no in cc

-- no symbol is a name, a number or a text
plain_symbol : (s : Symbol) → (is k.Name (sort_of_symbol s) || (is k.Number (sort_of_symbol s) || is k.Quoted (sort_of_symbol s))) ≡ false
unfolding same_sort
plain_symbol symbols.LeftParen = refl
plain_symbol symbols.RightParen = refl
plain_symbol symbols.Comma = refl
plain_symbol symbols.Semicolon = refl
plain_symbol symbols.Dot = refl
plain_symbol symbols.Star = refl
plain_symbol symbols.Equal = refl
plain_symbol symbols.NotEqual = refl
plain_symbol symbols.LessEqual = refl
plain_symbol symbols.GreaterEqual = refl
plain_symbol symbols.Less = refl
plain_symbol symbols.Greater = refl

-- a symbol of no such sort
no_symbol : {A : Type 0} (s : Symbol) (a : Sort) → (is k.Name a || (is k.Number a || is k.Quoted a)) ≡ true → sort_of_symbol s ≡ a → A
no_symbol s a e f =
    let both : true ≡ false = sym e ∙ ap (λ a. is k.Name a || (is k.Number a || is k.Quoted a)) (sym f) ∙ plain_symbol s in cc

-- zero has 64 bits
zero_fits : IsIn64 (pos 0)
zero_fits = record { above = omega (arith, ints); below = omega (arith, ints) }

-- the lexeme of a token at a place
proper_by : (script before z rest : List ℕ) (token : Token) (kind : TokenKind) → script ≡ before ++ (z ++ rest) → token.start ≡ length before → token.end ≡ length before + length z → IsToken kind z rest
    → IsProper script (lexeme_by script token kind)
unfolding spelling same_sort
proper_by script before z rest token kinds.Word e f g h = record { name = λ s. s; number = λ s. zero_fits; text = λ content s is. absurd (no_text _ s) }
proper_by script before z rest token (kinds.Number n) e f g h = record { name = λ s. cc; number = λ s. h.fits; text = λ content s is. cc }
proper_by script before z rest token kinds.Text e f g h = record {
  name = λ s. cc;
  number = λ s. zero_fits;
  text = λ content s is. subst IsUtf8 (quoted-same h.0 content (sym h.1.between ∙ sym (spelling_at script before z rest token k.Quoted (pos 0) e f g) ∙ is.between)) h.2;
}
proper_by script before z rest token (kinds.Sym symbol) e f g h = record { name = λ s. no_symbol symbol k.Name refl s; number = λ s. zero_fits; text = λ content s is. no_symbol symbol k.Quoted refl s }

-- the lexemes of a script's tokens
pub proper-reads : {at end : ℕ} {z rest : List ℕ} {tokens : List Token} (script before : List ℕ) → script ≡ before ++ z → length before ≡ at → Reads at z tokens end rest → AreProper script (lexemes_of script tokens)
unfolding lexeme_of
proper-reads script before e f (Reads.stops at z) = tt
proper-reads script before e f (Reads.past_blank at b z tokens end rest h more) =
    proper-reads script (before ++ b ∷ []) (e ∙ sym (append_assoc before (b ∷ []) z)) (omega (arith, f, length-append before (b ∷ []))) more
proper-reads script before e f (Reads.past_comment at y z tokens end rest h more) =
    proper-reads script (before ++ y) (e ∙ sym (append_assoc before y z)) (omega (arith, f, length-append before y)) more
proper-reads script before e f (Reads.past_token at kind y z tokens end rest h more) = (
  proper_by script before y z (record { kind = kind; start = at; end = at + length y }) kind e (sym f) (ap (λ n. n + length y) (sym f)) h,
  proper-reads script (before ++ y) (e ∙ sym (append_assoc before y z)) (omega (arith, f, length-append before y)) more,
)
