-- What is kept of a source.
use Rattle.std.specs.Prelude.{◌≡◌, ◌⊎◌, ⊤, ℕ, List}
use Rattle.og_faults.specs.declared.fault.Fault.{Fault}
use Rattle.og_faults.specs.declared.fault.Fault.TheVariants as faults
use Rattle.og_faults.specs.declared.stop.Stop.{Stop}
use Rattle.og_faults.specs.declared.stop.Stop.TheVariants as stops

-- the fault stands nowhere in a script
abbrev pub IsNowhere : Fault → Type 0
IsNowhere fault = (fault ≡ faults.Words) ⊎ (fault ≡ faults.SourceTooLong)

-- what was kept of a source is all of it, where a fault stands in it
abbrev pub IsKeptAt : List ℕ → List ℕ → Stop → Type 0
IsKeptAt source script (stops.Fault fault) = IsNowhere fault ⊎ (script ≡ source)
IsKeptAt source script _ = ⊤
