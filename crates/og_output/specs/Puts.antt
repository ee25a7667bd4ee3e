-- What was put into a sink.
use Rattle.std.specs.Prelude.{◌≡◌, ℕ, List, [], Option, Result, Ok, Err}
use Rattle.std.specs.Io.KnownBytes.{Appends}
use Rattle.og_base.specs.Told.{AppendsFront}
use Rattle.og_io.specs.declared.sink.PutRefusal.{PutRefusal}
use Rattle.og_io.specs.declared.sink.PutRefusal.TheVariants as puts

-- told bytes have grown by all of the piece, or by a front of it where it was refused; the sink fails only at a piece that is not empty
abbrev pub IsPut : Option (List ℕ) → Option (List ℕ) → List ℕ → Result (Unit {0}) PutRefusal → Type 0
IsPut old new piece (Ok done) = Appends old new piece
IsPut old new piece (Err puts.Failed) = AppendsFront old new piece × (¬ (piece ≡ []))
IsPut old new piece (Err puts.NoMemory) = AppendsFront old new piece
