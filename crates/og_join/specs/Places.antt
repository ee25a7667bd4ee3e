-- Spans that stand at two places of two lists.
use Rattle.std.specs.Prelude.{◌&&◌, zero, suc, ℕ, ℤ, Bool, false, List, [], ◌∷◌, nat_eq}
use Rattle.og_join.specs.Overlaps.{overlap}

-- there is a member at the place, and the test holds of it
abbrev pub is_at : {E : Type 0} → (E → Bool) → List E → ℕ → Bool
is_at p [] n = false
is_at p (x ∷ xs) zero = p x
is_at p (x ∷ xs) (suc n) = is_at p xs n

-- there are spans at both places, and they overlap
abbrev pub overlap_at : {E : Type 0} → (E → ℤ) → (E → ℤ) → List E → List E → ℕ → ℕ → Bool
overlap_at lo hi ls rs i j = is_at (λ l. is_at (λ r. overlap lo hi l r) rs j) ls i

-- it is the pair of these two places
abbrev pub is_pair : ℕ → ℕ → ℕ × ℕ → Bool
is_pair i j p = nat_eq p.0 i && nat_eq p.1 j
