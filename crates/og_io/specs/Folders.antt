-- Files by their names, as a device tells them, and what its calls say of them.
use Rattle.std.specs.Prelude.{◌≡◌, ◌≤◌, ℕ, List, [], Option, Some, None, Result, Ok, Err}
use Rattle.std.specs.Map.{lookup}
use Rattle.std.specs.Str.{bytes_eq}
use Rattle.og_base.specs.Told.{Rose}
use Rattle.og_io.specs.declared.files.Found.{Found}
use Rattle.og_io.specs.declared.files.Found.TheVariants.{Present, Absent}
use Rattle.og_io.specs.declared.files.FilesRefusal.{FilesRefusal}
use Rattle.og_io.specs.declared.files.FilesRefusal.TheVariants.{Failed, NoMemory}

-- the bytes of each name that has a file
abbrev pub Folder : Type 0
Folder = List ℕ → Option (List ℕ)

-- the files that are listed with their bytes
abbrev pub folder_of : List (List ℕ × List ℕ) → Folder
folder_of files = λ name. lookup (bytes_eq name) files

-- all names have the files that they had
abbrev pub IsSame : Folder → Folder → Type 0
IsSame old now = (name : List ℕ) → now name ≡ old name

-- all names but this one have the files that they had
abbrev pub IsSameBut : List ℕ → Folder → Folder → Type 0
IsSameBut name old now = (other : List ℕ) → ¬ (other ≡ name) → now other ≡ old other

-- where files were told they are told, and this holds of them
abbrev pub WhereTold : (Folder → Folder → Type 0) → Option Folder → Option Folder → Type 0
WhereTold holds None now = Unit {0}
WhereTold holds (Some old) None = ⊥
WhereTold holds (Some old) (Some now) = holds old now

-- the name has these bytes, or none, where it is told
abbrev pub HasFile : Option Folder → List ℕ → Option (List ℕ) → Type 0
HasFile None name file = Unit {0}
HasFile (Some folder) name file = folder name ≡ file

-- what is handed out after each answer of a read: the bytes of the name, and nothing where it has no file or was not read
abbrev pub IsAnswer : Result Found FilesRefusal → Option Folder → List ℕ → List ℕ → Type 0
IsAnswer (Ok Present) folder name buffer = HasFile folder name (Some buffer)
IsAnswer (Ok Absent) folder name buffer = HasFile folder name None × (buffer ≡ [])
IsAnswer (Err refusal) folder name buffer = buffer ≡ []

-- the count of faults rose where the call failed, and stays after any other answer
abbrev pub FailsAsCounted : {T : Type 0} → Result T FilesRefusal → ℕ → ℕ → Type 0
FailsAsCounted (Err Failed) before now = (before ≤ now) × Rose before now
FailsAsCounted (Err NoMemory) before now = now ≡ before
FailsAsCounted (Ok x) before now = now ≡ before

-- the count of absences rose where the name had no file, and never falls
abbrev pub AbsentAsCounted : Result Found FilesRefusal → ℕ → ℕ → Type 0
AbsentAsCounted (Ok Absent) before now = (before ≤ now) × Rose before now
AbsentAsCounted (Ok Present) before now = before ≤ now
AbsentAsCounted (Err refusal) before now = before ≤ now
