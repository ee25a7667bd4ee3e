-- Why a command has no statements to run.
use Rattle.std.specs.Prelude.{◌≡◌, ⊤, ℕ, List, Option, Some}
use Rattle.og_words.specs.declared.command.Command.{Command}
use Rattle.og_words.specs.declared.command.Command.TheVariants as commands
use Rattle.og_faults.specs.Faults.{fault_status}
use Rattle.og_faults.specs.declared.fault.Fault.TheVariants as faults
use Rattle.og_faults.specs.declared.stop.Stop.{Stop}
use Rattle.og_faults.specs.declared.stop.Stop.TheVariants as stops
use Rattle.og_script.specs.Scripts.{IsScriptFault}
use Rattle.og_script.specs.declared.source.SourceRefusal.{SourceRefusal}
use Rattle.og_script.specs.declared.source.SourceRefusal.TheVariants as sources

-- what a source that was not read makes of a run
abbrev pub stop_of_source : SourceRefusal → Stop
stop_of_source sources.TooLong = stops.Fault faults.SourceTooLong
stop_of_source sources.Failed = stops.ReadFault
stop_of_source sources.NoMemory = stops.NoMemory

-- the command is run
abbrev pub IsRunCommand : Command → Type 0
IsRunCommand (commands.Run workers) = ⊤
IsRunCommand _ = ⊥

-- the source has these bytes left, where the command asks for them
abbrev pub IsSourceOf : Command → Option (List ℕ) → List ℕ → Type 0
IsSourceOf command left source = IsRunCommand command → left ≡ Some source

-- why a command has no statements to run: its source is no script, or failed, or memory ran out
abbrev pub IsScriptStop : List ℕ → Stop → Type 0
IsScriptStop source (stops.Fault fault) = IsScriptFault source fault
IsScriptStop source stops.ReadFault = ⊤
IsScriptStop source stops.FileFault = ⊤
IsScriptStop source stops.WriteFault = ⊤
IsScriptStop source stops.NoMemory = ⊤

-- and what else is known of it
abbrev pub IsStopBefore : Command → Stop → Type 0
IsStopBefore command (stops.Fault fault) = IsRunCommand command × (fault_status fault ≡ 3)
IsStopBefore command stops.ReadFault = IsRunCommand command
IsStopBefore command stops.FileFault = ⊥
IsStopBefore command stops.WriteFault = ⊥
IsStopBefore command stops.NoMemory = ⊤
