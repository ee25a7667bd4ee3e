-- The paths that are asked for one name: itself, and new files beside it.
use Rattle.std.specs.Prelude.{◌≡◌, ◌≢◌, ◌<◌, ◌⊎◌, ℕ, List, [], ◌∷◌, ◌++◌, length, get_or, codes}
use Rattle.std.specs.Fmt.{decimal}

-- the front of the name up to its last slash, with it; nothing where it has no slash
pub record IsFolderOf (name folder : List ℕ) : Type 0 where
  pub last : List ℕ
  pub name_is : name ≡ folder ++ last
  pub one_part : (i : ℕ) → i < length last → get_or last i 0 ≢ 47
  pub ended : (folder ≡ []) ⊎ ((front : List ℕ) × (folder ≡ front ++ 47 ∷ []))

-- the path of that number for a new file in the folder of the name
abbrev pub IsNumbered : List ℕ → ℕ → List ℕ → Type 0
IsNumbered name number path = (folder : List ℕ) × IsFolderOf name folder × (path ≡ folder ++ codes ".ongq-" ++ decimal number)

-- the name, or a path for a new file beside it
abbrev pub IsNear : List ℕ → List ℕ → Type 0
IsNear name path = (path ≡ name) ⊎ ((number : ℕ) × IsNumbered name number path)
