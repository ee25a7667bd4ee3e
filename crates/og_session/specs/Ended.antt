-- What a run leaves beside its output, for telling why it ended.
use Rattle.std.specs.Prelude.{◌≡◌, ℕ, List, Err, IfErr}
use Rattle.og_faults.specs.declared.fault.Fault.{Fault}
use Rattle.og_faults.specs.declared.stop.Stop.TheVariants as stops
use Rattle.og_script.specs.Kept.{IsKeptAt}
use Rattle.og_session.specs.Runs.{Run}
use Rattle.og_session.specs.declared.session.Ended.{Ended}

-- a fault that ended the run is the one with which the defined run ends, and where it stands in the source all of that was kept
pub record IsEndedBy (source : List ℕ) (run : Run) (ended : Ended) : Type 0 where
  pub fault : (fault : Fault) → ended.end ≡ Err (stops.Fault fault) → run.end ≡ ended.end
  pub script : IfErr ended.end (IsKeptAt source ended.script.items)
