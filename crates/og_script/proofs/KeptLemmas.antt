-- What is kept of a source.
use Rattle.std.proofs.Common.{inl, inr, Result, Ok, Err, IfErr, ◌≡◌, ℕ, List, refl}
use Rattle.og_faults.specs.declared.stop.Stop.{Stop}
use Rattle.og_faults.specs.declared.stop.Stop.TheVariants as stops
use Rattle.og_script.specs.Kept.{IsKeptAt}
use Rattle.og_script.specs.Stops.{stop_of_source}
use Rattle.og_script.specs.declared.source.SourceRefusal.{SourceRefusal}
use Rattle.og_script.specs.declared.source.SourceRefusal.TheVariants as sources

-- whatever came of it, where all of it was kept
pub kept_whole : {T : Type 0} → (source script : List ℕ) (end : Result T Stop) → script ≡ source → IfErr end (IsKeptAt source script)
kept_whole source script (Ok done) same = tt
kept_whole source script (Err (stops.Fault fault)) same = inr same
kept_whole source script (Err stops.ReadFault) same = tt
kept_whole source script (Err stops.FileFault) same = tt
kept_whole source script (Err stops.WriteFault) same = tt
kept_whole source script (Err stops.NoMemory) same = tt

-- where it was not read to its end
pub kept_unread : (source script : List ℕ) (refusal : SourceRefusal) → IsKeptAt source script (stop_of_source refusal)
kept_unread source script sources.TooLong = inl (inr refl)
kept_unread source script sources.Failed = tt
kept_unread source script sources.NoMemory = tt
