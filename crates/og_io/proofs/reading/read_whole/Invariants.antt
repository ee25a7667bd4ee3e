-- The bytes read so far were at the front of the file, they are no more than the limit, each turn brought one or more, and no file has changed.
use Rattle.std.proofs.Common.{◌≤◌, IsTrue, length}
use Rattle.std.specs.Io.KnownBytes.{Consumes}
use Rattle.og_io.specs.Folders.{IsSame}
use Rattle.og_io.specs.WholeFiles.{max_file}
use Rattle.og_io.proofs.reading.read_whole.Given as goal

abbrev pub invariant-parts : goal.invariant-parts
invariant-parts g l = record {
  front : Consumes (g.S.Opened.Read.remaining l.initial.file) (g.S.Opened.Read.remaining l.file) l.bytes.items;
  small : length l.bytes.items ≤ max_file;
  turns : l.counter ≤ length l.bytes.items;
  files : IsTrue g.S.System.tells → IsSame (g.S.System.files l.initial.sys) (g.S.System.files l.sys);
  later : g.S.System.faults l.initial.sys ≤ g.S.System.faults l.sys;
}
