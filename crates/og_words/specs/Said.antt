-- What clap says of words, and the command that it is.
use Rattle.std.specs.Prelude.{◌≡◌, ℕ, ℤ, Option, Some, None, List, codes, option_map}
use Rattle.std.specs.Str.{IsUtf8}
use Rattle.clap.specs.Words.{Row, Text, first_of}
use Rattle.og_base.specs.Calendar.{IsRefDayText}
use Rattle.og_words.specs.Grammar.{IsRows, IsWorkers}
use Rattle.og_words.specs.declared.command.Command.{Command}
use Rattle.og_words.specs.declared.command.Command.TheVariants as commands

-- the name of the subcommand, and the values that one may have
pub record Said : Type 0 where
  pub name : Text
  pub workers : Option Text
  pub file : Option Text
  pub day : Option Text
  pub rows : Option Text

-- the same by the rows of the matches
abbrev pub said : Text → List Row → Said
said name rows = record {
  name = name;
  workers = first_of (codes "workers") rows;
  file = first_of (codes "file") rows;
  day = first_of (codes "day") rows;
  rows = first_of (codes "rows") rows;
}

-- the same of the subcommand that was met
abbrev pub said_of : Option (Text × List Row) → Option Said
said_of = option_map (λ p. said p.0 p.1)

-- the workers by the value of the option: 1 where it is not given
abbrev pub IsAsked : Option Text → ℕ → Type 0
IsAsked None workers = workers ≡ 1
IsAsked (Some v) workers = IsWorkers v workers

-- the command that is said
pub data IsSaid (s : Said) (command : Command) : Type 0 where
  said_run : (workers : ℕ) → s.name ≡ codes "run" → IsAsked s.workers workers → command ≡ commands.Run workers → IsSaid s command
  said_at : (file text : Text) (day : ℤ) → s.name ≡ codes "at" → s.file ≡ Some file → IsUtf8 file → s.day ≡ Some text → IsRefDayText text day → command ≡ commands.At file day → IsSaid s command
  said_load : (n : Text) (rows workers : ℕ) → s.name ≡ codes "load" → s.rows ≡ Some n → IsRows n rows → IsAsked s.workers workers → command ≡ commands.Load rows workers → IsSaid s command
