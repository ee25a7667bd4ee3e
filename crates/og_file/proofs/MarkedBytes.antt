-- A byte order mark is no part of the records.
use Rattle.std.proofs.Common.{◌≡◌, List, ◌∷◌, ℕ, refl}
use Rattle.std.specs.Prelude.{◌↔◌}
use Rattle.csv.specs.Reading.{strip_bom}
use Rattle.og_file.specs.Records.{Record, AreAll}

-- the mark goes
gone : (bytes : List ℕ) → strip_bom (0xEF ∷ 0xBB ∷ 0xBF ∷ bytes) ≡ bytes
unfolding strip_bom
gone bytes = refl

pub a_mark_changes_nothing : (bytes : List ℕ) (records : List Record) → strip_bom bytes ≡ bytes → AreAll (0xEF ∷ 0xBB ∷ 0xBF ∷ bytes) records ↔ AreAll bytes records
a_mark_changes_nothing bytes records none = ((λ are. rw none (rw (gone bytes) at are)), λ are. rw (gone bytes) (rw none at are))
