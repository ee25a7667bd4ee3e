-- The first text that is none of its kind.
use Rattle.std.proofs.Common.{◌≡◌, ◌==◌, ◌+◌, inl, inr, ℕ, false, List, [], ◌∷◌, Option, Some, drop, length, get_or, refl}
use Rattle.og_syntax.specs.declared.lexeme.Sort.{Sort}
use Rattle.og_syntax.specs.declared.lexeme.Lexeme.{Lexeme}
use Rattle.og_locate.specs.BadTexts.{IsBad, IsFirstBad}

-- it does not come first, so it comes further on
pub further : (script : List ℕ) (earlier word : Sort) (at : ℕ) (ts : List Lexeme) (d : Lexeme) (found : Option ℕ) → (length ts == 0) ≡ false → (IsBad script earlier word (get_or ts 0 d) → ⊥)
    → IsFirstBad script word (get_or ts 0 d).sort (at + 1) (drop 1 ts) found → IsFirstBad script earlier word at ts found
further script earlier word at [] d found some good h = cc
further script earlier word at (t ∷ ts) d found some good h = inr (good, h)

-- it comes first
pub here : (script : List ℕ) (earlier word : Sort) (at : ℕ) (ts : List Lexeme) (d : Lexeme) → (length ts == 0) ≡ false → IsBad script earlier word (get_or ts 0 d) → IsFirstBad script earlier word at ts (Some at)
here script earlier word at [] d some bad = cc
here script earlier word at (t ∷ ts) d some bad = inl (bad, refl)
