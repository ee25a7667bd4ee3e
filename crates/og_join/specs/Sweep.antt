-- What one step of the walk over two rising lists of spans finds, and what it leaves.
use Rattle.std.specs.Prelude.{◌+◌, zero, suc, ℕ, ℤ, Bool, List, [], ◌∷◌, if◌then◌else◌, int_lt, drop}
use Rattle.og_join.specs.Overlaps.{overlap, overlaps}

-- how many of the first spans begin before the end
abbrev pub reach_of : {E : Type 0} → (E → ℤ) → ℤ → List E → ℕ
reach_of lo end [] = 0
reach_of lo end (x ∷ xs) = if int_lt (lo x) end then reach_of lo end xs + 1 else 0

-- the place i with so many places from j on
abbrev pub row_places : ℕ → ℕ → ℕ → List (ℕ × ℕ)
row_places i j zero = []
row_places i j (suc n) = (i, j) ∷ row_places i (j + 1) n

-- so many places from i on with the place j
abbrev pub column_places : ℕ → ℕ → ℕ → List (ℕ × ℕ)
column_places i j zero = []
column_places i j (suc n) = (i, j) ∷ column_places (i + 1) j n

-- the places of one right span, which is j, with each left one that it overlaps, counted from i
abbrev pub column_overlaps : {E : Type 0} → (E → ℤ) → (E → ℤ) → ℕ → List E → ℕ → E → List (ℕ × ℕ)
column_overlaps lo hi i [] j r = []
column_overlaps lo hi i (l ∷ ls) j r = if overlap lo hi l r then (i, j) ∷ column_overlaps lo hi (i + 1) ls j r else column_overlaps lo hi (i + 1) ls j r

-- the pairs that are left after the left span, where it begins first, or else after the right one
abbrev pub rest_of : {E : Type 0} → (E → ℤ) → (E → ℤ) → Bool → ℕ → ℕ → List E → List E → List (ℕ × ℕ)
rest_of lo hi first i j ls rs = if first then overlaps lo hi (i + 1) j (drop (i + 1) ls) (drop j rs) else overlaps lo hi i (j + 1) (drop i ls) (drop (j + 1) rs)
