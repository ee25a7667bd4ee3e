-- What a run leaves beside its output.
use Rattle.std.proofs.Common.{◌≡◌, ◌∙◌, inl, ℕ, List, Option, Result, Err, refl, subst, sym}
use Rattle.og_io.specs.Folders.{Folder}
use Rattle.og_io.specs.declared.sink.PutRefusal.{PutRefusal}
use Rattle.og_io.specs.declared.sink.PutRefusal.TheVariants as puts
use Rattle.og_words.specs.declared.command.WordsRefusal.{WordsRefusal}
use Rattle.og_words.specs.declared.command.WordsRefusal.TheVariants as refusals
use Rattle.og_db.specs.Database.{Relation}
use Rattle.og_db.specs.Held.{Held}
use Rattle.og_faults.specs.Stops.{stop_of_put, stop_of_words}
use Rattle.og_faults.specs.declared.fault.Fault.{Fault}
use Rattle.og_faults.specs.declared.stop.Stop.{Stop}
use Rattle.og_faults.specs.declared.stop.Stop.TheVariants as stops
use Rattle.og_script.specs.Kept.{IsKeptAt}
use Rattle.og_session.specs.Ends.{Ends}
use Rattle.og_session.specs.Runs.{Run}

pub kept_words : (source script : List ℕ) (refusal : WordsRefusal) → IsKeptAt source script (stop_of_words refusal)
kept_words source script refusals.NoCommand = inl (inl refl)
kept_words source script refusals.NoMemory = tt

pub kept_put : (source script : List ℕ) (refusal : PutRefusal) → IsKeptAt source script (stop_of_put refusal)
kept_put source script puts.Failed = tt
kept_put source script puts.NoMemory = tt

-- the fault that ended a run is the one with which the defined run ends
pub same_end : (run : Run) (start : Folder) (db : List (Held Relation)) (folder : Option Folder) (text : List ℕ) (end : Result (Unit {0}) Stop) (fault : Fault)
    → Ends run start db folder text end → end ≡ Err (stops.Fault fault) → run.end ≡ end
same_end run start db folder text end fault ends is = (subst (Ends run start db folder text) is ends).ended ∙ sym is
