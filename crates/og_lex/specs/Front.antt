-- The token at the front of the bytes, as a function, and the tokens of a script by it. It is a tool of the
-- proofs: what tokens are is said by the grammar.
use Rattle.std.specs.Prelude.{◌≡◌, ◌+◌, ◌-◌, ◌≤◌, ◌^◌, ◌&&◌, ◌==◌, ◌++◌, ℕ, zero, suc, ℤ, pos, negsuc, Bool, true, false, not, if◌then◌else◌, nat_lt, nat_le, List, [], ◌∷◌, length, take, drop, slice_index, slice_range, Option, Some, None, Result, Ok, Err, ⊤}
use Rattle.std.specs.Char.{is_ascii_digit}
use Rattle.std.specs.List.{prefix_len}
use Rattle.std.specs.Str.{is_utf8}
use Rattle.og_base.specs.Letters.{begins_word, is_in_word}
use Rattle.og_lex.specs.Bytes.{is_blank, is_in_line, is_quote, value_after, signed}
use Rattle.og_lex.specs.Grammar.{bytes_of}
use Rattle.og_lex.specs.declared.front.Fault.{Fault}
use Rattle.og_lex.specs.declared.front.Fault.TheVariants as faults
use Rattle.og_lex.specs.declared.front.Front.{Front}
use Rattle.og_lex.specs.declared.front.Front.TheVariants.{Skip, Piece, Bad}
use Rattle.og_lex.specs.declared.refusal.LexRefusal.{LexRefusal}
use Rattle.og_lex.specs.declared.refusal.LexRefusal.TheVariants as refusals
use Rattle.og_lex.specs.declared.run.Class.{Class}
use Rattle.og_lex.specs.declared.run.Class.TheVariants as classes
use Rattle.og_lex.specs.declared.symbol.Symbol.{Symbol}
use Rattle.og_lex.specs.declared.symbol.Symbol.TheVariants.{LeftParen, RightParen, Comma, Semicolon, Dot, Star, Equal, NotEqual, LessEqual, GreaterEqual, Less, Greater}
use Rattle.og_lex.specs.declared.token.Token.{Token}
use Rattle.og_lex.specs.declared.token.TokenKind.TheVariants.{Word, Number, Text, Sym}

abbrev pub is_in : Class → ℕ → Bool
is_in classes.Word = is_in_word
is_in classes.Digit = is_ascii_digit
is_in classes.Line = is_in_line

-- the number, if it is within 64 bits
abbrev pub in_64 : ℤ → Option ℤ
in_64 (pos n) = if nat_lt n (2 ^ 63) then Some (pos n) else None
in_64 (negsuc n) = if nat_lt n (2 ^ 63) then Some (negsuc n) else None

abbrev pub sign_len : Bool → ℕ
sign_len is_negative = if is_negative then 1 else 0

abbrev pub numbered : Option ℤ → ℕ → Front
numbered (Some n) len = Piece (Number n) len
numbered None len = Bad faults.NumberRange

-- the number whose digits are at the front
unfoldable pub number : Bool → List ℕ → Front
number is_negative z =
    let len = prefix_len is_ascii_digit z in
    numbered (in_64 (signed is_negative (value_after 0 (take len z)))) (sign_len is_negative + len)

-- the comment or number after a `-`
unfoldable pub dash : List ℕ → Front
dash z =
    if slice_index z 0 == 45 then Skip (2 + prefix_len is_in_line (drop 1 z))
    else (if is_ascii_digit (slice_index z 0) then number true z else Bad faults.BadByte)

-- the place of the closing quote; a doubled quote does not close
abbrev pub closing : Bool → ℕ → List ℕ → Option ℕ
closing is_second at [] = None
closing true at (b ∷ z) = closing false (at + 1) z
closing false at (b ∷ z) = if is_quote b && not (slice_index z 0 == 39) then Some at else closing (is_quote b) (at + 1) z

abbrev pub closed : List ℕ → Option ℕ → Front
closed z None = Bad faults.OpenText
closed z (Some len) = if is_utf8 (take len z) then Piece Text (len + 2) else Bad faults.BadByte

-- the text after a `'`
unfoldable pub text : List ℕ → Front
text z = closed z (closing false 0 z)

-- the closing quote is the last of so many bytes
abbrev pub ends_at : Option ℕ → ℕ → Bool
ends_at None len = false
ends_at (Some end) len = end + 1 == len

-- a quote comes first, and the text that it begins ends with the bytes
abbrev pub is_quoted : List ℕ → Bool
is_quoted [] = false
is_quoted (b ∷ z) = is_quote b && ends_at (closing false 0 z) (length z)

-- the bytes without the second of each two quotes
abbrev pub single_quotes : Bool → List ℕ → List ℕ
single_quotes is_second [] = []
single_quotes true (b ∷ z) = single_quotes false z
single_quotes false (b ∷ z) = b ∷ single_quotes (is_quote b) z

-- the content of a text token, where its bytes are a text
unfoldable pub content_at : List ℕ → Token → Option (List ℕ)
content_at script token =
    if nat_le token.end (length script) && is_quoted (bytes_of script token)
    then Some (single_quotes false (slice_range script (token.start + 1) (token.end - 1))) else None

abbrev pub marked : Symbol → ℕ → Front
marked symbol len = Piece (Sym symbol) len

unfoldable pub less : ℕ → Front
less next = if next == 62 then marked NotEqual 2 else (if next == 61 then marked LessEqual 2 else marked Less 1)

unfoldable pub greater : ℕ → Front
greater next = if next == 61 then marked GreaterEqual 2 else marked Greater 1

unfoldable pub single : ℕ → Front
single b =
    if b == 40 then marked LeftParen 1 else (if b == 41 then marked RightParen 1 else (if b == 44 then marked Comma 1
    else (if b == 59 then marked Semicolon 1 else (if b == 46 then marked Dot 1 else (if b == 42 then marked Star 1
    else (if b == 61 then marked Equal 1 else Bad faults.BadByte))))))

-- the symbol with this first byte, before the next
unfoldable pub mark : ℕ → ℕ → Front
mark b next = if b == 60 then less next else (if b == 62 then greater next else single b)

-- what stands at the front
unfoldable pub front : List ℕ → Front
front [] = Bad faults.BadByte
front (b ∷ z) =
    if is_blank b then Skip 1
    else (if begins_word b then Piece Word (1 + prefix_len is_in_word z)
    else (if is_ascii_digit b then number false (b ∷ z)
    else (if b == 45 then dash z
    else (if b == 39 then text z else mark b (slice_index z 0)))))

-- a skip or a token has a byte or more, within the bytes
abbrev pub IsWithin : Front → ℕ → Type 0
IsWithin (Skip len) most = (1 ≤ len) × (len ≤ most)
IsWithin (Piece kind len) most = (1 ≤ len) × (len ≤ most)
IsWithin (Bad fault) most = ⊤

abbrev pub refusal_at : Fault → ℕ → LexRefusal
refusal_at faults.BadByte offset = refusals.BadByte offset
refusal_at faults.OpenText offset = refusals.OpenText offset
refusal_at faults.NumberRange offset = refusals.NumberRange offset

abbrev pub Lexed : Type 0
Lexed = Result (List Token) LexRefusal

-- with the tokens before
abbrev pub with_front : List Token → Lexed → Lexed
with_front tokens (Ok more) = Ok (tokens ++ more)
with_front tokens (Err e) = Err e

-- what stands at a place, and then what comes after so many bytes
abbrev pub go_on : Front → ℕ → (ℕ → Lexed) → Lexed
go_on (Skip len) at after = after len
go_on (Piece kind len) at after = with_front (record { kind = kind; start = at; end = at + len } ∷ []) (after len)
go_on (Bad fault) at after = Err (refusal_at fault at)

-- the tokens from a place on, where so many bytes of the last one are left
abbrev pub lex_from : ℕ → ℕ → List ℕ → Lexed
lex_from at left [] = Ok []
lex_from at (suc left) (b ∷ z) = lex_from (at + 1) left z
lex_from at zero (b ∷ z) = go_on (front (b ∷ z)) at (λ len. lex_from (at + 1) (len - 1) z)

unfoldable pub lexed : List ℕ → Lexed
lexed script = lex_from 0 0 script

-- what was returned is what is lexed, unless memory ran out
abbrev pub IsErrorOf : LexRefusal → Lexed → Type 0
IsErrorOf refusals.NoMemory lexed = ⊤
IsErrorOf e lexed = lexed ≡ Err e
