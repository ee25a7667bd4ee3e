-- Files of the system, read whole and written whole.
use Rattle.std.specs.Prelude.{◌≡◌, ℕ, List, [], Option, Some, None, Result, Ok, Err, IfSome, Vec}
use Rattle.std.specs.declared.alloc.Global.{Global}
use Rattle.std.specs.Io.KnownBytes.{Appends}
use Rattle.og_io.specs.declared.files.Found.{Found}
use Rattle.og_io.specs.declared.files.Found.TheVariants.{Present, Absent}
use Rattle.og_io.specs.declared.files.FilesRefusal.{FilesRefusal}

-- the most bytes of a file that is read
abbrev pub max_file : ℕ
max_file = 1073741824

-- these are the bytes that are told, where any are
abbrev pub AreTold : Option (List ℕ) → List ℕ → Type 0
AreTold told bytes = IfSome told (λ all. bytes ≡ all)

-- what was read is handed out; nothing is where there was no file or it was not read
abbrev pub HandsOut : Result (Option (Vec ℕ Global)) FilesRefusal → Result Found FilesRefusal → List ℕ → Type 0
HandsOut (Ok (Some bytes)) answer buffer = (answer ≡ Ok Present) × (buffer ≡ bytes.items)
HandsOut (Ok None) answer buffer = (answer ≡ Ok Absent) × (buffer ≡ [])
HandsOut (Err refusal) answer buffer = (answer ≡ Err refusal) × (buffer ≡ [])

-- these are all of the bytes of some file
abbrev pub AreOfSomeFile : {F : Type 0} → (F → Option (List ℕ)) → List ℕ → Type 0
AreOfSomeFile {F} remaining bytes = (file : F) × AreTold (remaining file) bytes

-- some file has taken all of the bytes
abbrev pub AreInSomeFile : {F : Type 0} → (F → Option (List ℕ)) → List ℕ → Type 0
AreInSomeFile {F} contents bytes = (before : F) × (now : F) × Appends (contents before) (contents now) bytes
