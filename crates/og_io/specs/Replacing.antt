-- What a system does to files by their paths where one of them is replaced.
use Rattle.std.specs.Prelude.{◌≡◌, ◌<◌, ◌⊎◌, ℕ, Bool, List, Some, None}
use Rattle.og_base.specs.Told.{Rose}
use Rattle.og_io.specs.Folders.{Folder, IsSameBut}
use Rattle.og_io.specs.Neighbours.{IsNumbered}

-- what a system is asked about: one name and the paths beside it, which of them are a plain file, and which are free or a plain file that may be written
pub record Scope : Type 0 where
  pub name : List ℕ
  pub is_plain : List ℕ → Bool
  pub may_take : List ℕ → Bool

-- the file of one path has become that of another, and no other has changed
pub record IsMoved (from to : List ℕ) (old now : Folder) : Type 0 where
  pub gone : now from ≡ None
  pub there : now to ≡ old from
  pub others : (path : List ℕ) → ¬ (path ≡ from) → ¬ (path ≡ to) → now path ≡ old path

-- the name has the bytes, and every other path has the file that it had
pub record IsReplaced (name bytes : List ℕ) (old now : Folder) : Type 0 where
  pub there : now name ≡ Some bytes
  pub others : IsSameBut name old now

-- every path has the file that it had, but that one without a file may have a new one where a removal failed
abbrev pub IsSameButKept : Folder → Folder → ℕ → ℕ → Type 0
IsSameButKept old now kept kept_now = (path : List ℕ) → (now path ≡ old path) ⊎ ((old path ≡ None) × Rose kept kept_now)

-- the number of paths that are tried for a new file
abbrev pub max_names : ℕ
max_names = 10000

-- each path for a new file below that number is taken, or is the name itself
abbrev pub AreTaken : List ℕ → ℕ → Folder → Type 0
AreTaken name count files =
    (number : ℕ) → number < count → (path : List ℕ) × IsNumbered name number path × ((path ≡ name) ⊎ (¬ (files path ≡ None)))
