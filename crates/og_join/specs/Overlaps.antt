-- The pairs of places of two lists of spans that overlap.
use Rattle.std.specs.Prelude.{◌≡◌, ◌+◌, ◌&&◌, ◌++◌, ⊤, ℕ, ℤ, Bool, false, List, [], ◌∷◌, if◌then◌else◌, int_lt}

-- none of the spans begins before the day
abbrev pub NoneBelow : {E : Type 0} → (E → ℤ) → ℤ → List E → Type 0
NoneBelow lo day [] = ⊤
NoneBelow lo day (x ∷ xs) = (int_lt (lo x) day ≡ false) × NoneBelow lo day xs

-- no span begins before an earlier one
abbrev pub Rises : {E : Type 0} → (E → ℤ) → List E → Type 0
Rises lo [] = ⊤
Rises lo (x ∷ xs) = NoneBelow lo (lo x) xs × Rises lo xs

-- each begins before the other's end
abbrev pub overlap : {E : Type 0} → (E → ℤ) → (E → ℤ) → E → E → Bool
overlap lo hi l r = int_lt (lo l) (hi r) && int_lt (lo r) (hi l)

-- the places of one left span, which is i, with each right one that it overlaps, counted from j
abbrev pub row_overlaps : {E : Type 0} → (E → ℤ) → (E → ℤ) → ℕ → E → ℕ → List E → List (ℕ × ℕ)
row_overlaps lo hi i l j [] = []
row_overlaps lo hi i l j (r ∷ rs) = if overlap lo hi l r then (i, j) ∷ row_overlaps lo hi i l (j + 1) rs else row_overlaps lo hi i l (j + 1) rs

-- the places of all pairs that overlap, counted from i and j
abbrev pub overlaps : {E : Type 0} → (E → ℤ) → (E → ℤ) → ℕ → ℕ → List E → List E → List (ℕ × ℕ)
overlaps lo hi i j [] rs = []
overlaps lo hi i j (l ∷ ls) rs = row_overlaps lo hi i l j rs ++ overlaps lo hi (i + 1) j ls rs
