-- Why a statement is refused.
use Rattle.std.specs.Prelude.{ℕ, List}
use Rattle.og_check.specs.declared.refusal.CheckRefusal.{CheckRefusal}
use Rattle.og_file.specs.declared.refusal.FileRefusal.{FileRefusal}

-- file fault: the name has no file, or the bytes of its file have a fault
pub data FileFault : Type 0 where
  no_file : List ℕ → FileFault
  in_file : FileRefusal → FileFault

-- why a statement is refused: by its checks, or for its file
pub data Refused : Type 0 where
  by_checks : CheckRefusal → Refused
  by_file : FileFault → Refused
