-- Words are ASCII, and words in lower case are words.
use Rattle.std.proofs.Common.{◌≡◌, ◌≤◌, ◌<◌, ◌+◌, ◌&&◌, ◌||◌, ◌==◌, ℕ, zero, suc, Bool, true, false, cond, nat_lt, List, [], ◌∷◌, arith, sym, ap, ◌∙◌, true≢false, leb-true, eqb-true, refl}
use Rattle.std.specs.List.{list_all}
use Rattle.std.specs.Int.{is_in_range}
use Rattle.std.specs.Str.{IsAscii, IsUtf8}
use Rattle.std.specs.Char.{is_ascii_alphabetic, is_ascii_alphanumeric, to_ascii_lowercase}
use Rattle.std.proofs.Math.Dec.{leb}
use Rattle.std.proofs.lemmas.Bool.{and_from, or_left, or_right, le-leb, ltb-true, ltb-false}
use Rattle.std.proofs.lemmas.Str.{IsUtf8-from_ascii}
use Rattle.std.proofs.lemmas.Str.Ascii.{lowercase-lowercase}
use Rattle.og_base.specs.Letters.{begins_word, is_in_word}
use Rattle.og_value.specs.Words.{IsLowerWord, is_word, folded}

-- where one of two holds, what follows from both holds
either : {G : Type 0} (a b : Bool) → (a || b) ≡ true → (a ≡ true → G) → (b ≡ true → G) → G
either true b e f g = f refl
either false b e f g = g e

both : (a b : Bool) → (a && b) ≡ true → (a ≡ true) × (b ≡ true)
both true b e = (refl, e)
both false b e = absurd (true≢false (sym e))

-- a byte of a range is small where the end of the range is
range_small : (lo hi b : ℕ) → hi < 128 → is_in_range lo hi b ≡ true → b < 128
range_small lo hi b h e = let k = leb-true b hi (both (leb lo b) (leb b hi) e).1 in omega (arith, h, k)

first_small : (b : ℕ) → begins_word b ≡ true → b < 128
first_small b h =
    either (is_ascii_alphabetic b) (b == 95) h
    (λ a. either (is_in_range 65 90 b) (is_in_range 97 122 b) a (range_small 65 90 b (omega arith)) (range_small 97 122 b (omega arith)))
    (λ e. let k = eqb-true b 95 e in omega (arith, k))

byte_small : (b : ℕ) → is_in_word b ≡ true → b < 128
byte_small b h =
    either (is_ascii_alphanumeric b) (b == 95) h
    (λ a. either (is_in_range 48 57 b || is_in_range 65 90 b) (is_in_range 97 122 b) a
    (λ c. either (is_in_range 48 57 b) (is_in_range 65 90 b) c (range_small 48 57 b (omega arith)) (range_small 65 90 b (omega arith)))
    (range_small 97 122 b (omega arith)))
    (λ e. let k = eqb-true b 95 e in omega (arith, k))

-- bytes that may stand inside a word are ASCII
bytes_ascii : (bs : List ℕ) → list_all is_in_word bs ≡ true → IsAscii bs
bytes_ascii [] h i = omega arith
bytes_ascii (b ∷ bs) h zero = byte_small b (both (is_in_word b) (list_all is_in_word bs) h).0
bytes_ascii (b ∷ bs) h (suc i) = bytes_ascii bs (both (is_in_word b) (list_all is_in_word bs) h).1 i

-- a word is UTF-8
pub word_utf8 : (bs : List ℕ) → is_word bs ≡ true → IsUtf8 bs
word_utf8 [] h = absurd (true≢false (sym h))
word_utf8 (b ∷ bs) h = IsUtf8-from_ascii (b ∷ bs) ascii
  where
    parts : (begins_word b ≡ true) × (list_all is_in_word bs ≡ true)
    parts = both (begins_word b) (list_all is_in_word bs) h

    ascii : IsAscii (b ∷ bs)
    ascii zero = first_small b parts.0
    ascii (suc i) = bytes_ascii bs parts.1 i

-- a letter of the range of small ones
small_letter : (c : ℕ) → 65 ≤ c → c < 91 → is_in_range 97 122 (c + 32) ≡ true
small_letter c above below = and_from (leb 97 (c + 32)) (leb (c + 32) 122) (le-leb 97 (c + 32) (omega (arith, above))) (le-leb (c + 32) 122 (omega (arith, below)))

-- a test that a byte passes holds of the byte in lower case, where it holds of small letters
lower_passes : (h : ℕ → Bool) → ((c : ℕ) → is_in_range 97 122 c ≡ true → h c ≡ true) → (c : ℕ) → h c ≡ true → h (to_ascii_lowercase c) ≡ true
lower_passes h letters c e = go (nat_lt c 65) (nat_lt c 91) refl refl
  where
    go : (a b : Bool) → nat_lt c 65 ≡ a → nat_lt c 91 ≡ b → h (cond a c (cond b (c + 32) c)) ≡ true
    go true b f g = e
    go false true f g = letters (c + 32) (small_letter c (ltb-false c 65 f) (ltb-true c 91 g))
    go false false f g = e

-- a small letter begins words
letter_begins : (c : ℕ) → is_in_range 97 122 c ≡ true → begins_word c ≡ true
letter_begins c e = or_left _ (c == 95) (or_right (is_in_range 65 90 c) (is_in_range 97 122 c) e)

-- a small letter stands in words
letter_in : (c : ℕ) → is_in_range 97 122 c ≡ true → is_in_word c ≡ true
letter_in c e = or_left _ (c == 95) (or_right (is_in_range 48 57 c || is_in_range 65 90 c) (is_in_range 97 122 c) e)

-- bytes of words in lower case
folded-in : (z : List ℕ) → list_all is_in_word z ≡ true → list_all is_in_word (folded z) ≡ true
folded-in [] e = refl
folded-in (b ∷ z) e =
    let parts = both (is_in_word b) (list_all is_in_word z) e in
    and_from (is_in_word (to_ascii_lowercase b)) _ (lower_passes is_in_word letter_in b parts.0) (folded-in z parts.1)

-- a word in lower case is a word
pub folded-word : (z : List ℕ) → is_word z ≡ true → is_word (folded z) ≡ true
folded-word [] e = absurd (true≢false (sym e))
folded-word (b ∷ z) e =
    let parts = both (begins_word b) (list_all is_in_word z) e in
    and_from (begins_word (to_ascii_lowercase b)) _ (lower_passes begins_word letter_begins b parts.0) (folded-in z parts.1)

-- two changes to lower case are one
pub folded-folded : (z : List ℕ) → folded (folded z) ≡ folded z
folded-folded [] = refl
folded-folded (b ∷ z) = ap (λ c. c ∷ folded (folded z)) (lowercase-lowercase b) ∙ ap (λ y. to_ascii_lowercase b ∷ y) (folded-folded z)

-- a word becomes a word in lower case
pub folded-lower : (z : List ℕ) → is_word z ≡ true → IsLowerWord (folded z)
folded-lower z e = record { word = folded-word z e; lower = folded-folded z }
