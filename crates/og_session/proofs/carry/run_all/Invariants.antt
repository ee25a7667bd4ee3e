-- The statements before that place were carried out, what they write was written, and the others are left.
use Rattle.std.proofs.Common.{◌≡◌, ◌≤◌, Some, drop, reverse}
use Rattle.std.specs.List.{AllByRecursion}
use Rattle.og_io.specs.Folders.{Folder}
use Rattle.og_script.specs.LiveTexts.{IsLiveStmt}
use Rattle.og_session.specs.Contents.{AreContents, Contents}
use Rattle.og_session.specs.Headline.{HasGrown}
use Rattle.og_session.proofs.RunLemmas.{IsAt}
use Rattle.og_session.proofs.carry.run_all.Given as goal

abbrev pub invariant-stmts : goal.invariant-stmts
invariant-stmts g l = record {
  at : (start : Folder) (contents : Contents) → g.F.Files.folder l.fn.files ≡ Some start → AreContents start contents
      → IsAt start contents l.fn.stmts l.place l.names (g.F.Files.folder l.files) (g.K.Sink.written l.fn.out) (g.K.Sink.written l.out) (g.F.Files.calls l.fn.files) (g.F.Files.calls l.files);
  left : reverse l.left.items ≡ drop l.place l.fn.stmts;
  live : AllByRecursion IsLiveStmt (drop l.place l.fn.stmts);
  files : g.F.Files.faults l.files ≡ g.F.Files.faults l.fn.files;
  writes : g.K.Sink.faults l.out ≡ g.K.Sink.faults l.fn.out;
  grown : HasGrown (g.K.Sink.written l.fn.out) (g.K.Sink.written l.out);
  absences : g.F.Files.absences l.fn.files ≤ g.F.Files.absences l.files;
}
