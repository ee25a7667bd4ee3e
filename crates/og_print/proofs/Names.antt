-- Words in lower case.
use Rattle.std.proofs.Common.{◌≡◌, ℕ, Bool, true, false, List, [], ◌∷◌, refl, sym, ap, ◌∙◌}
use Rattle.std.specs.Str.{bytes_eq}
use Rattle.og_syntax.specs.declared.lexeme.Sort.{Sort}
use Rattle.og_syntax.specs.Words.{reserved, sort_in, sort_of_word}
use Rattle.og_value.specs.Words.{folded}
use Rattle.og_value.proofs.WordLemmas.{folded-folded}

-- a list of words gives a word the same sort in lower case
folded-sort_in : (entries : List (List ℕ × Sort)) (z : List ℕ) → sort_in entries (folded z) ≡ sort_in entries z
folded-sort_in [] z = refl
folded-sort_in (entry ∷ entries) z = by (bytes_eq (folded entry.0) (folded (folded z))) (bytes_eq (folded entry.0) (folded z)) refl refl (folded-sort_in entries z)
  where
    by : (a b : Bool) → bytes_eq (folded entry.0) (folded (folded z)) ≡ a → bytes_eq (folded entry.0) (folded z) ≡ b → sort_in entries (folded z) ≡ sort_in entries z → sort_in (entry ∷ entries) (folded z) ≡ sort_in (entry ∷ entries) z
    by true true e f later = rw (e, f) refl
    by false false e f later = rw (e, f) later
    by true false e f later = let g : true ≡ false = sym e ∙ ap (λ y. bytes_eq (folded entry.0) y) (folded-folded z) ∙ f in cc
    by false true e f later = let g : false ≡ true = sym e ∙ ap (λ y. bytes_eq (folded entry.0) y) (folded-folded z) ∙ f in cc

-- a word in lower case has the same sort
pub folded-sort : (z : List ℕ) → sort_of_word (folded z) ≡ sort_of_word z
unfolding sort_of_word
folded-sort z = folded-sort_in reserved z
