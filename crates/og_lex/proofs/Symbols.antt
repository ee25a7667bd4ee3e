-- Symbols at the front of the bytes.
use Rattle.std.proofs.Common.{◌≡◌, ℕ, ◌==◌, ◌||◌, Bool, true, false, cond, List, [], ◌∷◌, ◌++◌, length, refl, ap, subst, sym}
use Rattle.og_lex.specs.declared.front.Front.{Front}
use Rattle.og_lex.specs.declared.front.Front.TheVariants.{Piece}
use Rattle.og_lex.specs.declared.symbol.Symbol.{Symbol}
use Rattle.og_lex.specs.declared.symbol.Symbol.TheVariants as symbols
use Rattle.og_lex.specs.declared.token.TokenKind.TheVariants as kinds
use Rattle.og_lex.specs.Bytes.{Stops}
use Rattle.og_lex.specs.Front.{front, mark, less, greater, single, marked}
use Rattle.og_lex.specs.Grammar.{IsSymbol, symbol_text, makes_longer}

-- the last of three, where two tests fail
last_of_three : (t u : Bool) (x y z : Front) → (t || u) ≡ false → cond t x (cond u y z) ≡ z
last_of_three true u x y z h = absurd (cc)
last_of_three false true x y z h = absurd (cc)
last_of_three false false x y z h = refl

symbol-at : (s : Symbol) (rest : List ℕ) → Stops (makes_longer s) rest → front (symbol_text s ++ rest) ≡ Piece (kinds.Sym s) (length (symbol_text s))
unfolding front mark less greater single
symbol-at symbols.LeftParen rest h = refl
symbol-at symbols.RightParen rest h = refl
symbol-at symbols.Comma rest h = refl
symbol-at symbols.Semicolon rest h = refl
symbol-at symbols.Dot rest h = refl
symbol-at symbols.Star rest h = refl
symbol-at symbols.Equal rest h = refl
symbol-at symbols.NotEqual rest h = refl
symbol-at symbols.LessEqual rest h = refl
symbol-at symbols.GreaterEqual rest h = refl
symbol-at symbols.Less [] h = refl
symbol-at symbols.Less (b ∷ rest) h = last_of_three (b == 62) (b == 61) (marked symbols.NotEqual 2) (marked symbols.LessEqual 2) (marked symbols.Less 1) h
symbol-at symbols.Greater [] h = refl
symbol-at symbols.Greater (b ∷ rest) h = ap (λ t. cond t (marked symbols.GreaterEqual 2) (marked symbols.Greater 1)) h

pub front-symbol : (s : Symbol) (z rest : List ℕ) → IsSymbol s z rest → front (z ++ rest) ≡ Piece (kinds.Sym s) (length z)
front-symbol s z rest h =
    subst (λ y. front (y ++ rest) ≡ Piece (kinds.Sym s) (length y)) (sym h.same) (symbol-at s rest h.longest)
