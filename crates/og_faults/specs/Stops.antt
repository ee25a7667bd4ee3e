-- What a refusal below makes of a run.
use Rattle.std.specs.Prelude.{ℕ}
use Rattle.og_check.specs.declared.refusal.CheckRefusal.{CheckRefusal}
use Rattle.og_check.specs.declared.refusal.CheckRefusal.TheVariants as checks
use Rattle.og_file.specs.declared.refusal.FileRefusal.{FileRefusal}
use Rattle.og_file.specs.declared.refusal.FileRefusal.TheVariants as contents
use Rattle.og_io.specs.declared.files.FilesRefusal.{FilesRefusal}
use Rattle.og_io.specs.declared.files.FilesRefusal.TheVariants as files
use Rattle.og_io.specs.declared.sink.PutRefusal.{PutRefusal}
use Rattle.og_io.specs.declared.sink.PutRefusal.TheVariants as puts
use Rattle.og_lex.specs.declared.refusal.LexRefusal.{LexRefusal}
use Rattle.og_lex.specs.declared.refusal.LexRefusal.TheVariants as lexes
use Rattle.og_parse.specs.declared.refusal.ParseRefusal.{ParseRefusal}
use Rattle.og_parse.specs.declared.refusal.ParseRefusal.TheVariants as parses
use Rattle.og_words.specs.declared.command.WordsRefusal.{WordsRefusal}
use Rattle.og_words.specs.declared.command.WordsRefusal.TheVariants as words
use Rattle.og_faults.specs.Refusals.{Refused, by_checks, by_file, in_file, no_file}
use Rattle.og_faults.specs.declared.fault.Fault.TheVariants as faults
use Rattle.og_faults.specs.declared.stop.Stop.{Stop}
use Rattle.og_faults.specs.declared.stop.Stop.TheVariants.{Fault, FileFault, WriteFault, NoMemory}

-- of a piece of output
abbrev pub stop_of_put : PutRefusal → Stop
stop_of_put puts.Failed = WriteFault
stop_of_put puts.NoMemory = NoMemory

-- of the tokens
abbrev pub stop_of_lex : LexRefusal → Stop
stop_of_lex (lexes.BadByte offset) = Fault (faults.BadByte offset)
stop_of_lex (lexes.OpenText offset) = Fault (faults.OpenText offset)
stop_of_lex (lexes.NumberRange offset) = Fault (faults.NumberRange offset)
stop_of_lex lexes.NoMemory = NoMemory

-- of the trees
abbrev pub stop_of_parse : ParseRefusal → Stop
stop_of_parse (parses.Syntax statement) = Fault (faults.Syntax statement)
stop_of_parse (parses.TooDeep statement) = Fault (faults.TooDeep statement)
stop_of_parse (parses.Literal statement) = Fault (faults.Literal statement)
stop_of_parse parses.NoMemory = NoMemory

-- of the checks of the statement with that number
abbrev pub stop_of_check : ℕ → CheckRefusal → Stop
stop_of_check n (checks.NoSuchName name) = Fault (faults.Check n (checks.NoSuchName name))
stop_of_check n (checks.NameTaken name) = Fault (faults.Check n (checks.NameTaken name))
stop_of_check n (checks.NoSuchColumn name) = Fault (faults.Check n (checks.NoSuchColumn name))
stop_of_check n (checks.AmbiguousColumn name) = Fault (faults.Check n (checks.AmbiguousColumn name))
stop_of_check n (checks.KindsDiffer found wanted) = Fault (faults.Check n (checks.KindsDiffer found wanted))
stop_of_check n (checks.CountsDiffer found wanted) = Fault (faults.Check n (checks.CountsDiffer found wanted))
stop_of_check n (checks.TooMany found limit) = Fault (faults.Check n (checks.TooMany found limit))
stop_of_check n checks.NoMemory = NoMemory

-- of the words
abbrev pub stop_of_words : WordsRefusal → Stop
stop_of_words words.NoCommand = Fault faults.Words
stop_of_words words.NoMemory = NoMemory

-- of a file that was not read or written
abbrev pub stop_of_files : FilesRefusal → Stop
stop_of_files files.Failed = FileFault
stop_of_files files.NoMemory = NoMemory

-- of the bytes of a file, at the statement with that number
abbrev pub stop_of_bytes : ℕ → FileRefusal → Stop
stop_of_bytes n contents.Header = Fault (faults.Header n)
stop_of_bytes n (contents.Cell number) = Fault (faults.Record n number)
stop_of_bytes n (contents.RowCount said found) = Fault (faults.RowCount n said found)
stop_of_bytes n contents.NoMemory = NoMemory

-- of a statement with that number that is refused
abbrev pub stop_of_refused : ℕ → Refused → Stop
stop_of_refused n (by_checks refusal) = stop_of_check n refusal
stop_of_refused n (by_file (no_file file)) = Fault (faults.NoFile n file)
stop_of_refused n (by_file (in_file refusal)) = stop_of_bytes n refusal
