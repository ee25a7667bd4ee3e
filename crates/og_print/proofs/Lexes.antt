-- The bytes of words are lexed as these words.
use Rattle.std.proofs.Common.{◌≡◌, ◌⊎◌, ◌+◌, ◌-◌, ◌*◌, ◌<◌, ◌==◌, ◌&&◌, ◌||◌, inl, inr, ℕ, ℤ, pos, negsuc, neg_ℤ, suc, Bool, true, false, not, List, [], ◌∷◌, length, Option, Some, None, refl, sym, ap, ap₂, ◌∙◌, subst, arith}
use Rattle.std.proofs.lemmas.Int.{ints}
use Rattle.std.proofs.lemmas.Bool.{le-leb, ne_eqb}
use Rattle.std.proofs.lemmas.Fmt.{decimal_is_IsNumeral}
use Rattle.std.proofs.lemmas.Slice.Eq.{bytes_eq-Decides}
use Rattle.std.proofs.lemmas.Str.{digit_value_digit}
use Rattle.std.proofs.lemmas.Str.Parse.{digit_from_value}
use Rattle.std.proofs.Math.Dec.{leb}
use Rattle.std.specs.Char.{is_ascii_digit, digit_value}
use Rattle.std.specs.Fmt.{decimal, signed_decimal}
use Rattle.std.specs.List.{list_all}
use Rattle.std.specs.Str.{bytes_eq}
use Rattle.std.specs.Str.Parse.{AllDigits, digits_value_after}
use Rattle.og_base.specs.Letters.{begins_word, is_in_word}
use Rattle.og_lex.specs.Bytes.{is_blank, AreAll, IsRun, has_sign, unsigned, value_after, signed, IsIn64}
use Rattle.og_lex.specs.Grammar.{IsWord, IsNumber, symbol_text, makes_longer, IsToken}
use Rattle.og_lex.specs.declared.symbol.Symbol.{Symbol}
use Rattle.og_lex.specs.declared.symbol.Symbol.TheVariants as symbols
use Rattle.og_lex.specs.declared.token.TokenKind.{TokenKind}
use Rattle.og_lex.specs.declared.token.TokenKind.TheVariants as kinds
use Rattle.og_value.specs.Words.{is_word}
use Rattle.og_syntax.specs.declared.lexeme.Sort.{Sort}
use Rattle.og_syntax.specs.declared.lexeme.Sort.TheVariants as k
use Rattle.og_syntax.specs.Lexemes.{is, same_sort}
use Rattle.og_syntax.proofs.EverySort.{everywhere, every_sort}
use Rattle.og_syntax.proofs.Exact.{implies, so, left_of, right_of, not_true, or_left}
use Rattle.og_syntax.specs.Words.{sort_of_word, word_of}
use Rattle.og_parse.specs.Tokens.{sort_of_symbol}
use Rattle.og_print.specs.Words.{Word, Plain, Named, Whole, Quoted, sort_text, word_text, word_sort, blank_after}
use Rattle.og_print.proofs.Spelling.{is_inner, IsWell}

-- a word of a printed script
abbrev pub Comes : Word → Type 0
Comes w = IsWell w ⊎ (w ≡ Plain k.Semicolon)

-- ---- words and symbols

-- the symbol of a sort
abbrev pub symbol_of : Sort → Option Symbol
symbol_of k.LeftParen = Some symbols.LeftParen
symbol_of k.RightParen = Some symbols.RightParen
symbol_of k.Comma = Some symbols.Comma
symbol_of k.Semicolon = Some symbols.Semicolon
symbol_of k.Dot = Some symbols.Dot
symbol_of k.Star = Some symbols.Star
symbol_of k.Equal = Some symbols.Equal
symbol_of k.NotEqual = Some symbols.NotEqual
symbol_of k.LessEqual = Some symbols.LessEqual
symbol_of k.GreaterEqual = Some symbols.GreaterEqual
symbol_of k.Less = Some symbols.Less
symbol_of k.Greater = Some symbols.Greater
symbol_of _ = None

-- the kind of the token of a sort
abbrev pub kind_by : Option Symbol → TokenKind
kind_by (Some symbol) = kinds.Sym symbol
kind_by None = kinds.Word

-- the kind of the token of a word
abbrev pub word_kind : Word → TokenKind
word_kind (Word.Plain sort) = kind_by (symbol_of sort)
word_kind (Word.Named name) = kinds.Word
word_kind (Word.Whole n) = kinds.Number n
word_kind (Word.Quoted z) = kinds.Text

-- whether the bytes of a sort are a token of it
abbrev pub is_read : Sort → Option Symbol → Bool
is_read a (Some symbol) = bytes_eq (sort_text a) (symbol_text symbol) && (not (makes_longer symbol (blank_after a)) && same_sort (sort_of_symbol symbol) a)
is_read a None = is_word (sort_text a) && (not (is_in_word (blank_after a)) && same_sort (sort_of_word (sort_text a)) a)

-- each sort with a spelling is read
all_read : everywhere (λ a. implies (is_inner a || is k.Semicolon a) (is_read a (symbol_of a))) ≡ true
unfolding same_sort sort_of_word word_of
all_read = refl

-- a sort with a spelling is read
pub read_sort : (a : Sort) → (is_inner a || is k.Semicolon a) ≡ true → is_read a (symbol_of a) ≡ true
read_sort a e = so (is_inner a || is k.Semicolon a) (is_read a (symbol_of a)) (every_sort (λ a. implies (is_inner a || is k.Semicolon a) (is_read a (symbol_of a))) all_read a) e

-- bytes that may stand in words are of that class
all_in : (z : List ℕ) → list_all is_in_word z ≡ true → AreAll is_in_word z
all_in [] e = tt
all_in (b ∷ z) e = (left_of (is_in_word b) (list_all is_in_word z) e, all_in z (right_of (is_in_word b) (list_all is_in_word z) e))

-- a word ends at a byte that stands in none
pub word_token : (z : List ℕ) (b : ℕ) (rest : List ℕ) → is_word z ≡ true → is_in_word b ≡ false → IsWord z (b ∷ rest)
word_token [] b rest e f = cc
word_token (c ∷ z) b rest e f =
    (c, z, refl, left_of (begins_word c) (list_all is_in_word z) e, record { all = all_in z (right_of (begins_word c) (list_all is_in_word z) e); whole = f })

-- the token of a reserved word or of a symbol
sort_token : (a : Sort) (rest : List ℕ) (o : Option Symbol) → is_read a o ≡ true → IsToken (kind_by o) (sort_text a) (blank_after a ∷ rest)
sort_token a rest (Some symbol) e = record {
  same = (bytes_eq-Decides (sort_text a) (symbol_text symbol)).0 (left_of (bytes_eq (sort_text a) (symbol_text symbol)) _ e);
  longest = not_true (makes_longer symbol (blank_after a)) (left_of (not (makes_longer symbol (blank_after a))) _ (right_of (bytes_eq (sort_text a) (symbol_text symbol)) _ e));
}
sort_token a rest None e =
    word_token (sort_text a) (blank_after a) rest (left_of (is_word (sort_text a)) _ e)
    (not_true (is_in_word (blank_after a)) (left_of (not (is_in_word (blank_after a))) _ (right_of (is_word (sort_text a)) _ e)))

-- ---- numbers

-- a digit is of the class of digits
digit_in : (c : ℕ) → digit_value c < 10 → is_ascii_digit c ≡ true
digit_in c h =
    let r = digit_from_value c h in
    both (leb 48 c) (leb c 57) (le-leb 48 c (omega (arith, r))) (le-leb c 57 (omega (arith, r)))
  where
    both : (a b : Bool) → a ≡ true → b ≡ true → (a && b) ≡ true
    both true b e f = f
    both false b e f = cc

-- digits are of that class
digits_in : (ds : List ℕ) → AllDigits 10 ds → AreAll is_ascii_digit ds
digits_in [] h = tt
digits_in (c ∷ ds) h = (digit_in c h.0, digits_in ds h.1)

-- the value of digits
same_value : (n : ℕ) (ds : List ℕ) → AllDigits 10 ds → value_after n ds ≡ digits_value_after 10 n ds
same_value n [] h = refl
same_value n (c ∷ ds) h =
    let r = digit_from_value c h.0 in
    let v = digit_value_digit c r in
    let step : 10 * n + (c - 48) ≡ n * 10 + digit_value c = omega (arith, v) in
    ap (λ m. value_after m ds) step ∙ same_value (n * 10 + digit_value c) ds h.1

-- digits have no sign
no_sign : (ds : List ℕ) → AllDigits 10 ds → (unsigned ds ≡ ds) × (has_sign ds ≡ false)
no_sign [] h = (refl, refl)
no_sign (c ∷ ds) h =
    let r = digit_from_value c h.0 in
    let minus : (c == 45) ≡ false = ne_eqb c 45 (λ e. omega (arith, r, e)) in
    (rw minus refl, minus)

-- a number in decimal, before a byte that is no digit
pub number_token : (n : ℤ) (b : ℕ) (rest : List ℕ) → IsIn64 n → is_ascii_digit b ≡ false → IsNumber n (signed_decimal n) (b ∷ rest)
number_token (pos n) b rest fits stop =
    let d = decimal_is_IsNumeral n (omega (arith, ints, fits.below)) in
    let plain = no_sign (decimal n) d.0.1 in
    record {
      numeral = record {
        digits = subst (λ z. IsRun is_ascii_digit z (b ∷ rest)) (sym plain.0) (record { all = digits_in (decimal n) d.0.1; whole = stop });
        some = subst (λ z. 0 < length z) (sym plain.0) d.0.0;
      };
      value = sym (ap₂ (λ s z. signed s (value_after 0 z)) plain.1 plain.0 ∙ ap pos (same_value 0 (decimal n) d.0.1 ∙ d.1));
      fits = fits;
    }
number_token (negsuc n) b rest fits stop =
    let d = decimal_is_IsNumeral (suc n) (omega (arith, ints, fits.above)) in
    record {
      numeral = record { digits = record { all = digits_in (decimal (suc n)) d.0.1; whole = stop }; some = d.0.0 };
      value = sym (ap (λ m. neg_ℤ (pos m)) (same_value 0 (decimal (suc n)) d.0.1 ∙ d.1));
      fits = fits;
    }

-- ---- all words

-- a sort of a printed word has a spelling
pub spelled_sort : (a : Sort) → Comes (Plain a) → (is_inner a || is k.Semicolon a) ≡ true
unfolding same_sort
spelled_sort a (inl h) = or_left (is_inner a) (is k.Semicolon a) h
spelled_sort a (inr h) = sort_is a h
  where
    is_one : Word → Bool
    is_one (Word.Plain a) = is_inner a || is k.Semicolon a
    is_one _ = true

    sort_is : (a : Sort) → Plain a ≡ Plain k.Semicolon → (is_inner a || is k.Semicolon a) ≡ true
    sort_is a e = ap is_one e

-- the token of a word before a blank
pub word_token_of : (w : Word) (rest : List ℕ) → Comes w → IsToken (word_kind w) (word_text w) (blank_after (word_sort w) ∷ rest)
word_token_of (Word.Plain a) rest h = sort_token a rest (symbol_of a) (read_sort a (spelled_sort a h))
word_token_of (Word.Named name) rest (inl h) = word_token name 32 rest h.0 refl
word_token_of (Word.Named name) rest (inr h) = absurd (other h)
  where
    other : Named name ≡ Plain k.Semicolon → ⊥
    other e = cc
word_token_of (Word.Whole n) rest (inl h) = number_token n 32 rest h refl
word_token_of (Word.Whole n) rest (inr h) = absurd (other h)
  where
    other : Whole n ≡ Plain k.Semicolon → ⊥
    other e = cc
word_token_of (Word.Quoted z) rest (inl h) = (z, record { between = refl; closed = refl }, h)
word_token_of (Word.Quoted z) rest (inr h) = absurd (other h)
  where
    other : Quoted z ≡ Plain k.Semicolon → ⊥
    other e = cc

-- a blank comes after a word
pub blank : (a : Sort) → is_blank (blank_after a) ≡ true
blank a = every_sort (λ a. is_blank (blank_after a)) refl a
