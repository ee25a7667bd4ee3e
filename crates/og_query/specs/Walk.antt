-- The walk over all combinations of rows: places in the lists, the last one fastest.
use Rattle.std.specs.Prelude.{ℕ, suc, Bool, List, [], ◌∷◌, ◌++◌, Option, Some, None, length, map, drop, slice_index_or, nat_lt, if◌then◌else◌}
use Rattle.std.specs.List.{list_all}
use Rattle.og_query.specs.Combinations.{combinations}

-- each of the lists has a row
abbrev pub all_have_rows : {V : Type 0} → List (List (List V)) → Bool
all_have_rows lists = list_all (λ rows. nat_lt 0 (length rows)) lists

-- the first places
abbrev pub zeros : List ℕ → List ℕ
zeros sizes = map (λ _. 0) sizes

-- a place that stays where the places behind it go on, and else the next place, where the list has one, with the first places behind it
abbrev pub stepped : ℕ → List ℕ → ℕ → Option (List ℕ) → Option (List ℕ)
stepped size sizes place (Some places) = Some (place ∷ places)
stepped size sizes place None = if nat_lt (suc place) size then Some (suc place ∷ zeros sizes) else None

-- the places after these, in lists of these sizes
abbrev pub next_places : List ℕ → List ℕ → Option (List ℕ)
next_places (size ∷ sizes) (place ∷ places) = stepped size sizes place (next_places sizes places)
next_places _ _ = None

-- the rows at these places, joined to one row
abbrev pub row_from : {V : Type 0} → List (List (List V)) → List ℕ → List V
row_from (rows ∷ more) (place ∷ places) = slice_index_or rows place [] ++ row_from more places
row_from _ _ = []

-- the combinations from these places on
abbrev pub left_from : {V : Type 0} → List (List (List V)) → List ℕ → List (List V)
left_from (rows ∷ more) (place ∷ places) = map (λ rest. slice_index_or rows place [] ++ rest) (left_from more places) ++ combinations (drop (suc place) rows ∷ more)
left_from _ _ = [] ∷ []

-- the combinations that are left: none once the walk has ended
abbrev pub left_of : {V : Type 0} → List (List (List V)) → Option (List ℕ) → List (List V)
left_of lists (Some places) = left_from lists places
left_of lists None = []
