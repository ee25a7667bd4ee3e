-- Where statements become too deep.
use Rattle.std.proofs.Common.{◌≡◌, ◌<◌, true, false, List, [], ◌∷◌, take, length, refl, ◌∙◌, ap, arith}
use Rattle.std.proofs.lemmas.List.{take_all}
use Rattle.og_syntax.specs.declared.lexeme.Lexeme.{Lexeme}
use Rattle.og_parse.specs.Depth.{is_too_deep}
use Rattle.og_locate.specs.Deep.{IsBetween}

none_flat : (piece : List Lexeme) → is_too_deep (take 0 piece) ≡ false
unfolding is_too_deep
none_flat [] = refl
none_flat (t ∷ ts) = refl

some_deep : (piece : List Lexeme) → is_too_deep piece ≡ true → 0 < length piece
some_deep [] e = absurd (by (none_flat [] ∙ refl) e)
  where
    by : is_too_deep [] ≡ false → is_too_deep [] ≡ true → ⊥
    by flat deep = cc
some_deep (t ∷ ts) e = omega arith

-- at first they do somewhere
pub between_all : (piece : List Lexeme) → is_too_deep piece ≡ true → IsBetween piece 0 (length piece)
between_all piece e = record {
  flat = none_flat piece;
  deep = ap is_too_deep (take_all (length piece) piece (omega arith)) ∙ e;
  rises = some_deep piece e;
  within = omega arith;
}
