-- What statements make of a database and of the files that are saved: the names that are known after them, and the world of each day.
use Rattle.std.specs.Prelude.{◌≡◌, ◌≤◌, ⊤, ℕ, ℤ, Bool, true, false, List, [], ◌∷◌, length, filter}
use Rattle.og_base.specs.Calendar.{IsRefDay}
use Rattle.og_value.specs.declared.kind.What.{What}
use Rattle.og_value.specs.declared.kind.What.TheVariants as what
use Rattle.og_query.specs.Fits.{Known}
use Rattle.og_db.specs.Held.{Held, described, known_of, all_made_of}
use Rattle.og_db.specs.Database.{Relation, names_at}
use Rattle.og_db.specs.Effects.{Effect, sizes_after, world_of_day}
use Rattle.og_db.specs.Live.{Live}

-- how many rows each name has
abbrev pub sizes_at : List (Held Relation) → List (Held ℕ)
sizes_at db = all_made_of length db

-- the same name, which is the same, has the same columns, and no more rows
pub record IsWithin (held most : Held ℕ) : Type 0 where
  pub name : held.name ≡ most.name
  pub what : described held ≡ described most
  pub rows : held.rows ≤ most.rows

-- the same names in the same order, each with no more rows
abbrev pub AreWithin : List (Held ℕ) → List (Held ℕ) → Type 0
AreWithin [] [] = ⊤
AreWithin (held ∷ helds) (most ∷ mosts) = IsWithin held most × AreWithin helds mosts
AreWithin _ _ = ⊥

-- what each name is after statements, with its columns; these are the same on all days
abbrev pub known_after : List Effect → Known
known_after effects = known_of (sizes_after effects).names

-- the live results after statements; these are the same on all days
abbrev pub live_of : List Effect → List Live
live_of effects = (sizes_after effects).live

-- whether what a name is has rows of its own: a live result has those of its query
abbrev pub is_stored : What → Bool
is_stored what.Table = true
is_stored what.Kept = true
is_stored what.Live = false

-- the names but the live ones, which a database holds at the end of a run
abbrev pub stored : {V : Type 0} → List (Held V) → List (Held V)
stored hs = filter (λ h. is_stored h.what) hs

-- on each day the database and the files that were saved are the world of that day after the statements, and none has more rows than its size;
-- the database here is all names, the live ones with the relations that their queries answer
pub record IsWorldOf (db files : List (Held Relation)) (effects : List Effect) : Type 0 where
  pub names : (d : ℤ) → IsRefDay d → names_at d db ≡ (world_of_day d effects).names
  pub saved : (d : ℤ) → IsRefDay d → names_at d files ≡ (world_of_day d effects).files
  pub sizes : AreWithin (sizes_at db) (sizes_after effects).names
  pub saved_sizes : AreWithin (sizes_at files) (sizes_after effects).files
