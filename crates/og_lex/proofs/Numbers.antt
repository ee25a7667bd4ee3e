-- Values of digits, cut at a greatest number.
use Rattle.std.proofs.Common.{◌≡◌, ℕ, ◌+◌, ◌-◌, ◌*◌, ◌<◌, min, List, [], ◌∷◌, length, get_or, drop, ◌∙◌, ap, sym, arith}
use Rattle.std.proofs.lemmas.List.{at_drop_more}
use Rattle.og_lex.specs.Bytes.{value_after}

-- numbers that are one when they are cut stay so
pub value_after-capped : (most a c : ℕ) (z : List ℕ) → min a most ≡ min c most → min (value_after a z) most ≡ min (value_after c z) most
value_after-capped most a c [] h = h
value_after-capped most a c (b ∷ z) h =
    value_after-capped most (10 * a + (b - 48)) (10 * c + (b - 48)) z (omega (arith, h))

-- one more digit
pub value_after-more : (most n i : ℕ) (digits : List ℕ) (next : ℕ) → i < length digits
    → next ≡ min (min (n * 10) most + (get_or digits i 0 - 48)) most
    → min (value_after next (drop (i + 1) digits)) most ≡ min (value_after n (drop i digits)) most
value_after-more most n i digits next within e =
    value_after-capped most next (10 * n + (get_or digits i 0 - 48)) (drop (i + 1) digits) (omega (arith, e))
    ∙ ap (λ v. min v most) (sym (at_drop_more (value_after n) digits i 0 within))
