-- How the message for what stopped a run begins.
use Rattle.std.specs.Prelude.{◌≡◌, ◌≤◌, ◌++◌, ◌∷◌, [], ⊤, ℕ, List, Option, Some, None, length, codes}
use Rattle.std.specs.Fmt.{decimal}
use Rattle.og_faults.specs.declared.stop.Stop.{Stop}
use Rattle.og_faults.specs.declared.stop.Stop.TheVariants as stops
use Rattle.og_locate.specs.Positions.{IsPositionOf}
use Rattle.og_locate.specs.declared.position.Position.{Position}
use Rattle.og_report.specs.Marks.{IsMarkOf}
use Rattle.og_report.specs.declared.finding.Mark.{Mark}

-- the text begins with the line and the column: `LINE:COLUMN: `
abbrev pub BeginsAt : Position → List ℕ → Type 0
BeginsAt position text = (rest : List ℕ) × (text ≡ decimal position.line ++ codes ":" ++ decimal position.column ++ codes ": " ++ rest)

-- where there is a mark in the script, the text begins with its line and column
abbrev pub IsToldAt : List ℕ → Option Mark → List ℕ → Type 0
IsToldAt script None text = ⊤
IsToldAt script (Some mark) text = mark.start ≤ length script → (position : Position) × IsPositionOf script mark.start position × BeginsAt position text

-- the message: of a fault, at its mark; else one line
abbrev pub IsReport : List ℕ → Stop → List ℕ → Type 0
IsReport script (stops.Fault fault) text = (mark : Option Mark) × IsMarkOf script fault mark × IsToldAt script mark text
IsReport script stops.ReadFault text = text ≡ codes "standard input: it could not be read" ++ 10 ∷ []
IsReport script stops.FileFault text = text ≡ codes "a file could not be read or written: look at its name, its rights, its size and the room on the device" ++ 10 ∷ []
IsReport script stops.WriteFault text = text ≡ codes "standard output: it could not be written" ++ 10 ∷ []
IsReport script stops.NoMemory text = text ≡ codes "out of memory" ++ 10 ∷ []
