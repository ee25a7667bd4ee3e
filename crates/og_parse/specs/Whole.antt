-- What a function that reads a whole statement returns.
use Rattle.std.specs.Prelude.{◌≡◌, Option, Some, None, Result, Ok, Err}
use Rattle.og_syntax.specs.declared.refusal.Refusal.{Refusal}
use Rattle.og_syntax.specs.declared.refusal.Refusal.TheVariants as r

-- what was returned is what is read, unless memory ran out
abbrev pub GivesAll : {A : Type 0} → Result A Refusal → Option A → Type 0
GivesAll (Ok x) read = read ≡ Some x
GivesAll (Err r.NoMemory) read = Unit {0}
GivesAll (Err r.Syntax) read = read ≡ None
