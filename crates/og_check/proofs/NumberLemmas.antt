-- A number in decimal has no letter.
use Rattle.std.proofs.Common.{◌≡◌, ◌<◌, ◌^◌, ◌&&◌, ◌||◌, ◌==◌, ℕ, true, List, [], ◌∷◌, refl, ap, le-leb, arith}
use Rattle.std.specs.Char.{to_ascii_lowercase, digit_value}
use Rattle.std.specs.Fmt.{decimal}
use Rattle.std.specs.Str.Parse.{AllDigits}
use Rattle.std.proofs.lemmas.Fmt.{decimal_is_IsNumeral}
use Rattle.std.proofs.lemmas.Str.Parse.{digit_from_value}
use Rattle.std.proofs.lemmas.Str.Ascii.{lowercase_is}
use Rattle.std.specs.Int.{is_in_range}
use Rattle.std.specs.List.{list_all}
use Rattle.og_base.specs.Letters.{is_in_word}
use Rattle.og_value.specs.Words.{folded, is_word}

-- digits stay as they are in lower case
digits_stay : (ds : List ℕ) → AllDigits 10 ds → folded ds ≡ ds
digits_stay [] h = refl
digits_stay (d ∷ ds) h = (λ i. stays d h.0 i ∷ digits_stay ds h.1 i)
  where
    stays : (d : ℕ) → digit_value d < 10 → to_ascii_lowercase d ≡ d
    stays d h = let r = digit_from_value d h in (lowercase_is d).1 (omega (arith, r.1))

-- c and a number stay as they are in lower case
pub numbered_stays : (n : ℕ) → n < 2 ^ 64 → folded (99 ∷ decimal n) ≡ 99 ∷ decimal n
numbered_stays n h = ap (λ ds. 99 ∷ ds) (digits_stay (decimal n) (decimal_is_IsNumeral n h).0.1)

-- digits may stand inside a word
digits_in_word : (ds : List ℕ) → AllDigits 10 ds → list_all is_in_word ds ≡ true
digits_in_word [] h = refl
digits_in_word (d ∷ ds) h = (λ i. digit_in_word d h.0 i && digits_in_word ds h.1 i)
  where
    digit_in_word : (d : ℕ) → digit_value d < 10 → is_in_word d ≡ true
    digit_in_word d h =
        let r = digit_from_value d h in
        (λ i. (((le-leb 48 d r.0 i && le-leb d 57 r.1 i) || is_in_range 65 90 d) || is_in_range 97 122 d) || d == 95)

-- c and a number are a word
pub numbered_word : (n : ℕ) → n < 2 ^ 64 → is_word (99 ∷ decimal n) ≡ true
numbered_word n h = digits_in_word (decimal n) (decimal_is_IsNumeral n h).0.1
