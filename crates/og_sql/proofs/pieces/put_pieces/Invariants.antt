-- The statements before that place have their pieces, and the others are left.
use Rattle.std.proofs.Common.{◌≡◌, Some, drop, reverse}
use Rattle.og_io.specs.Folders.{Folder}
use Rattle.og_session.specs.Contents.{AreContents, Contents}
use Rattle.og_sql.proofs.RunSteps.{IsAt}
use Rattle.og_sql.proofs.pieces.put_pieces.Given as goal

abbrev pub invariant-stmts : goal.invariant-stmts
invariant-stmts g l = record {
  at : (start : Folder) (contents : Contents) → g.F.Files.folder l.fn.files ≡ Some start → AreContents start contents → IsAt contents start l.fn.stmts l.place l.outline (g.F.Files.folder l.files) l.text.items;
  left : reverse l.left.items ≡ drop l.place l.fn.stmts;
  files : g.F.Files.faults l.files ≡ g.F.Files.faults l.fn.files;
}
