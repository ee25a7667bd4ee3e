-- Nothing has changed so far, and each path that was tried is taken.
use Rattle.std.proofs.Common.{◌≡◌, ◌≤◌, IsTrue, true}
use Rattle.og_io.specs.Folders.{IsSame}
use Rattle.og_io.specs.Replacing.{AreTaken}
use Rattle.og_io.proofs.replaced.replace_file.Given as goal

abbrev pub invariant-names : goal.invariant-names
invariant-names g l = record {
  scope : g.S.System.scope l.sys ≡ g.S.System.scope l.fn.sys;
  may : (g.S.System.scope l.fn.sys).may_take l.name ≡ true;
  files : IsTrue g.S.System.tells → IsSame (g.S.System.files l.fn.sys) (g.S.System.files l.sys);
  taken : IsTrue g.S.System.tells → AreTaken l.name l.number (g.S.System.files l.fn.sys);
  later : g.S.System.faults l.fn.sys ≤ g.S.System.faults l.sys;
  kept : g.S.System.kept l.sys ≡ g.S.System.kept l.fn.sys;
}
