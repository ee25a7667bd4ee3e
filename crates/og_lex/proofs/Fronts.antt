-- What stands at the front of the bytes is what the grammar says.
use Rattle.std.proofs.Common.{◌≡◌, ℕ, ℤ, pos, negsuc, ◌+◌, ◌^◌, ◌<◌, ◌==◌, Bool, true, false, cond, List, [], ◌∷◌, ◌++◌, nat_lt, SomeIff, length, length-append, take, Option, Some, None, refl, ap, ap₂, subst, sym, ◌∙◌, append_assoc, arith}
use Rattle.std.proofs.lemmas.Bool.Decides.{Decides-eqb, nat_tests}
use Rattle.std.proofs.lemmas.Int.{ints}
use Rattle.std.proofs.lemmas.Str.{is_utf8-from_IsUtf8}
use Rattle.std.specs.Char.{is_ascii_digit}
use Rattle.std.specs.List.{prefix_len}
use Rattle.std.specs.Str.{IsUtf8, is_utf8}
use Rattle.og_lex.specs.declared.front.Fault.TheVariants as faults
use Rattle.og_lex.specs.declared.front.Front.TheVariants.{Skip, Piece, Bad}
use Rattle.og_lex.specs.declared.token.TokenKind.TheVariants as kinds
use Rattle.og_base.specs.Letters.{begins_word, is_in_word}
use Rattle.og_lex.specs.Bytes.{is_blank, is_in_line, is_quote, AreAll, Stops, IsRun, has_sign, unsigned, value_after, signed, value_of, IsIn64, doubled, quoted}
use Rattle.og_lex.specs.Faults.{IsOpenText, IsNumberRange}
use Rattle.og_lex.specs.Front.{front, dash, number, numbered, in_64, sign_len, text, closed, closing}
use Rattle.og_lex.specs.Grammar.{IsComment, IsWord, IsNumeral, IsNumber, IsQuoted}
use Rattle.og_lex.proofs.Quotes.{closing-quoted, closed_at, IsUtf8-doubled}
use Rattle.og_lex.proofs.Runs.{prefix_len-run, take-joined}

-- ---- bytes of one class are of no other

-- a digit is no other first byte
pub record DigitOnly (b : ℕ) : Type 0 where
  pub blank : is_blank b ≡ false
  pub word : begins_word b ≡ false
  pub sign : (b == 45) ≡ false

pub digit_only : (b : ℕ) → is_ascii_digit b ≡ true → DigitOnly b
digit_only b h = record {
  blank = grind (arith, nat_tests, h);
  word = grind (arith, nat_tests, h);
  sign = grind (arith, nat_tests, h);
}

pub word_only : (b : ℕ) → begins_word b ≡ true → is_blank b ≡ false
word_only b h = grind (arith, nat_tests, h)

-- ---- what the grammar has is at the front

pub front-blank : (b : ℕ) (z : List ℕ) → is_blank b ≡ true → front (b ∷ z) ≡ Skip 1
unfolding front
front-blank b z h = rw h refl

pub front-comment : (text rest : List ℕ) → IsComment text rest → front (text ++ rest) ≡ Skip (length text)
unfolding front dash
front-comment text rest h =
    let len = prefix_len-run is_in_line h.0 rest h.2 in
    rw h.1 (ap Skip (omega (arith, len)))

pub front-begins_word : (b : ℕ) (z : List ℕ) → begins_word b ≡ true → front (b ∷ z) ≡ Piece kinds.Word (1 + prefix_len is_in_word z)
unfolding front
front-begins_word b z h =
    let other = word_only b h in
    rw (other, h) refl

pub front-word : (text rest : List ℕ) → IsWord text rest → front (text ++ rest) ≡ Piece kinds.Word (length text)
front-word text rest h =
    let len = prefix_len-run is_in_word h.1 rest h.4 in
    rw h.2 (front-begins_word h.0 (h.1 ++ rest) h.3 ∙ ap (Piece kinds.Word) (omega (arith, len)))

-- digits with a sign, or without
abbrev pub with_sign : Bool → List ℕ → List ℕ
with_sign true digits = 45 ∷ digits
with_sign false digits = digits

-- a numeral, by its sign and its digits
pub record Signed (z rest : List ℕ) : Type 0 where
  pub is_negative : Bool
  pub digits : List ℕ
  pub same : z ≡ with_sign is_negative digits
  pub run : IsRun is_ascii_digit digits rest
  pub some : 0 < length digits

pub signed_parts : (z rest : List ℕ) → IsNumeral z rest → Signed z rest
signed_parts [] rest h = absurd (omega (arith, h.some))
signed_parts (b ∷ z) rest h = by (b == 45) refl h.digits h.some
  where
    by : (t : Bool) → (b == 45) ≡ t → IsRun is_ascii_digit (cond t z (b ∷ z)) rest → 0 < length (cond t z (b ∷ z)) → Signed (b ∷ z) rest
    by true e run some = record { is_negative = true; digits = z; same = ap (λ x. x ∷ z) ((Decides-eqb b 45).0 e); run = run; some = some }
    by false e run some = record { is_negative = false; digits = b ∷ z; same = refl; run = run; some = some }

pub unsigned-with_sign : (is_negative : Bool) (digits : List ℕ) → AreAll is_ascii_digit digits → unsigned (with_sign is_negative digits) ≡ digits
unsigned-with_sign true digits h = refl
unsigned-with_sign false [] h = refl
unsigned-with_sign false (b ∷ z) h = ap (λ t. cond t z (b ∷ z)) (digit_only b h.0).sign

has_sign-with_sign : (is_negative : Bool) (digits : List ℕ) → AreAll is_ascii_digit digits → has_sign (with_sign is_negative digits) ≡ is_negative
has_sign-with_sign true digits h = refl
has_sign-with_sign false [] h = refl
has_sign-with_sign false (b ∷ z) h = (digit_only b h.0).sign

pub value_of-with_sign : (is_negative : Bool) (digits : List ℕ) → AreAll is_ascii_digit digits → value_of (with_sign is_negative digits) ≡ signed is_negative (value_after 0 digits)
value_of-with_sign is_negative digits h =
    ap₂ (λ t z. signed t (value_after 0 z)) (has_sign-with_sign is_negative digits h) (unsigned-with_sign is_negative digits h)

pub length-with_sign : (is_negative : Bool) (digits : List ℕ) → sign_len is_negative + length digits ≡ length (with_sign is_negative digits)
length-with_sign true digits = omega arith
length-with_sign false digits = omega arith

pub number-run : (is_negative : Bool) (digits rest : List ℕ) → IsRun is_ascii_digit digits rest
    → number is_negative (digits ++ rest) ≡ numbered (in_64 (signed is_negative (value_after 0 digits))) (sign_len is_negative + length digits)
unfolding number
number-run is_negative digits rest h =
    let len = prefix_len-run is_ascii_digit digits rest h in
    let front = ap (λ n. take n (digits ++ rest)) len ∙ take-joined digits rest in
    ap₂ (λ n z. numbered (in_64 (signed is_negative (value_after 0 z))) (sign_len is_negative + n)) len front

pub front-with_sign : (is_negative : Bool) (digits rest : List ℕ) → AreAll is_ascii_digit digits → 0 < length digits
    → front (with_sign is_negative digits ++ rest) ≡ number is_negative (digits ++ rest)
unfolding front dash
front-with_sign is_negative [] rest h some = absurd (omega (arith, some))
front-with_sign true (b ∷ z) rest h some = rw ((digit_only b h.0).sign, h.0) refl
front-with_sign false (b ∷ z) rest h some = rw ((digit_only b h.0).blank, (digit_only b h.0).word, h.0) refl

pub front-numeral : (z rest : List ℕ) → IsNumeral z rest → front (z ++ rest) ≡ numbered (in_64 (value_of z)) (length z)
front-numeral z rest h =
    let s = signed_parts z rest h in
    subst (λ y. front (y ++ rest) ≡ numbered (in_64 (value_of y)) (length y)) (sym s.same)
    (front-with_sign s.is_negative s.digits rest s.run.all s.some
    ∙ (number-run s.is_negative s.digits rest s.run
    ∙ ap₂ (λ n len. numbered (in_64 n) len) (sym (value_of-with_sign s.is_negative s.digits s.run.all)) (length-with_sign s.is_negative s.digits)))

-- whether a number is within 64 bits
pub in_64-is : (n : ℤ) → SomeIff (in_64 n) (IsIn64 n) n
in_64-is (pos n) = by (nat_lt n (2 ^ 63)) refl
  where
    by : (t : Bool) → nat_lt n (2 ^ 63) ≡ t → SomeIff (cond t (Some (pos n)) None) (IsIn64 (pos n)) (pos n)
    by true e = (record { above = grind (arith, ints, nat_tests, e); below = grind (arith, ints, nat_tests, e) }, refl)
    by false e = λ h. grind (arith, ints, nat_tests, e, h.below)
in_64-is (negsuc n) = by (nat_lt n (2 ^ 63)) refl
  where
    by : (t : Bool) → nat_lt n (2 ^ 63) ≡ t → SomeIff (cond t (Some (negsuc n)) None) (IsIn64 (negsuc n)) (negsuc n)
    by true e = (record { above = grind (arith, ints, nat_tests, e); below = grind (arith, ints, nat_tests, e) }, refl)
    by false e = λ h. grind (arith, ints, nat_tests, e, h.above)

in_64-fits : (n : ℤ) (r : Option ℤ) → SomeIff r (IsIn64 n) n → IsIn64 n → r ≡ Some n
in_64-fits n None h fits = absurd (h fits)
in_64-fits n (Some m) h fits = ap Some h.1

in_64-outside : (n : ℤ) (r : Option ℤ) → SomeIff r (IsIn64 n) n → ¬ IsIn64 n → r ≡ None
in_64-outside n None h outside = refl
in_64-outside n (Some m) h outside = absurd (outside h.0)

pub front-number : (n : ℤ) (z rest : List ℕ) → IsNumber n z rest → front (z ++ rest) ≡ Piece (kinds.Number n) (length z)
front-number n z rest h =
    let fits = in_64-fits (value_of z) (in_64 (value_of z)) (in_64-is (value_of z)) (subst IsIn64 h.value h.fits) in
    front-numeral z rest h.numeral ∙ ap (λ r. numbered r (length z)) (fits ∙ ap Some (sym h.value))

pub front-number_range : (z : List ℕ) → IsNumberRange z → front z ≡ Bad faults.NumberRange
front-number_range z h =
    let outside = in_64-outside (value_of h.0) (in_64 (value_of h.0)) (in_64-is (value_of h.0)) h.4 in
    ap front h.2 ∙ (front-numeral h.0 h.1 h.3 ∙ ap (λ r. numbered r (length h.0)) outside)

-- a text that closes
text-closed : (content rest : List ℕ) → Stops is_quote rest
    → text (doubled content ++ 39 ∷ rest) ≡ cond (is_utf8 (doubled content)) (Piece kinds.Text (length (doubled content) + 2)) (Bad faults.BadByte)
unfolding text
text-closed content rest h =
    ap (closed (doubled content ++ 39 ∷ rest)) (closing-quoted 0 content rest h ∙ ap Some (omega arith))
    ∙ ap (λ z. cond (is_utf8 z) (Piece kinds.Text (length (doubled content) + 2)) (Bad faults.BadByte)) (take-joined (doubled content) (39 ∷ rest))

-- the bytes of a text and what follows it
pub quoted-before : (content rest : List ℕ) → quoted content ++ rest ≡ 39 ∷ (doubled content ++ 39 ∷ rest)
quoted-before content rest = ap (λ z. 39 ∷ z) (append_assoc (doubled content) (39 ∷ []) rest)

pub length-quoted : (content : List ℕ) → length (doubled content) + 2 ≡ length (quoted content)
length-quoted content = omega (arith, length-append (doubled content) (39 ∷ []))

pub front-quote : (z : List ℕ) → front (39 ∷ z) ≡ text z
unfolding front
front-quote z = refl

pub front-quoted : (content z rest : List ℕ) → IsQuoted content z rest
    → front (z ++ rest) ≡ cond (is_utf8 (doubled content)) (Piece kinds.Text (length z)) (Bad faults.BadByte)
front-quoted content z rest h =
    subst (λ y. front (y ++ rest) ≡ cond (is_utf8 (doubled content)) (Piece kinds.Text (length y)) (Bad faults.BadByte)) (sym h.between)
    (ap front (quoted-before content rest)
    ∙ (front-quote (doubled content ++ 39 ∷ rest)
    ∙ (text-closed content rest h.closed
    ∙ ap (λ n. cond (is_utf8 (doubled content)) (Piece kinds.Text n) (Bad faults.BadByte)) (length-quoted content))))

pub front-text : (content z rest : List ℕ) → IsQuoted content z rest → IsUtf8 content → front (z ++ rest) ≡ Piece kinds.Text (length z)
front-text content z rest h u =
    front-quoted content z rest h
    ∙ ap (λ t. cond t (Piece kinds.Text (length z)) (Bad faults.BadByte)) (is_utf8-from_IsUtf8 (doubled content) (IsUtf8-doubled content u))

pub front-open_text : (z : List ℕ) → IsOpenText z → front z ≡ Bad faults.OpenText
unfolding text
front-open_text z h = ap front h.opens.1 ∙ (front-quote h.opens.0 ∙ by (closing false 0 h.opens.0) refl)
  where
    by : (r : Option ℕ) → closing false 0 h.opens.0 ≡ r → closed h.opens.0 r ≡ Bad faults.OpenText
    by None e = refl
    by (Some end) e =
        let c = closed_at 0 h.opens.0 end e in
        absurd (h.endless c.content (quoted c.content) c.rest (h.opens.1 ∙ (ap (λ y. 39 ∷ y) c.joined ∙ sym (quoted-before c.content c.rest))) (record { between = refl; closed = c.stops }))
