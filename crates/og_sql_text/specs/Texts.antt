-- Comments of SQL.
use Rattle.std.specs.Prelude.{◌++◌, ◌||◌, ◌==◌, ℕ, List, [], ◌∷◌, codes, if◌then◌else◌}
use Rattle.std.specs.List.{flat_map}

-- a byte of a comment: an end of a line begins a new one with its mark
abbrev pub commented : ℕ → List ℕ
commented b = if b == 10 || b == 13 then codes "\n-- " else b ∷ []

-- a comment: each line of the text behind a mark, and a line feed
abbrev pub comment : List ℕ → List ℕ
comment text = codes "-- " ++ flat_map commented text ++ codes "\n"
