-- The names of files that lie in a folder or below it.
use Rattle.std.specs.Prelude.{ℕ, Bool, List, [], ◌∷◌, ◌&&◌, ◌||◌, not, nat_eq}
use Rattle.std.specs.List.{list_all, list_any, slice_split}
use Rattle.std.specs.Str.{bytes_eq}

-- the byte 0
abbrev pub is_zero : ℕ → Bool
is_zero byte = nat_eq byte 0

-- the byte of a slash
abbrev pub is_slash : ℕ → Bool
is_slash byte = nat_eq byte 47

-- a part between slashes: neither nothing nor `.` nor `..`
abbrev pub is_part : List ℕ → Bool
is_part part = not (bytes_eq part [] || bytes_eq part (46 ∷ []) || bytes_eq part (46 ∷ 46 ∷ []))

-- such parts with slashes between them, and no byte 0
abbrev pub is_below_folder : List ℕ → Bool
is_below_folder name = not (list_any is_zero name) && list_all is_part (slice_split is_slash name)
