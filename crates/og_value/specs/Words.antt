-- The words that are names.
use Rattle.std.specs.Prelude.{◌≡◌, ℕ, Bool, false, true, ◌&&◌, List, [], ◌∷◌, map}
use Rattle.std.specs.List.{list_all}
use Rattle.std.specs.Char.{to_ascii_lowercase}
use Rattle.og_base.specs.Letters.{begins_word, is_in_word}

-- a letter or `_` first, then letters, digits and `_`
abbrev pub is_word : List ℕ → Bool
is_word [] = false
is_word (b ∷ bs) = begins_word b && list_all is_in_word bs

-- the bytes in lower case
abbrev pub folded : List ℕ → List ℕ
folded = map to_ascii_lowercase

-- a word in lower case
pub record IsLowerWord (bs : List ℕ) : Type 0 where
  pub word : is_word bs ≡ true
  pub lower : folded bs ≡ bs
