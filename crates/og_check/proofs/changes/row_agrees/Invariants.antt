use Rattle.std.proofs.Common.{◌≡◌, drop, map}
use Rattle.og_value.specs.Cells.{kind_of}
use Rattle.og_query.specs.Kinds.{kinds_of}
use Rattle.og_check.specs.Statements.{tuple_of}
use Rattle.og_check.specs.Steps.{same_kinds}
use Rattle.og_check.proofs.changes.row_agrees.Given as goal

abbrev pub invariant-values : goal.invariant-values
invariant-values l = same_kinds (map kind_of (drop l.i l.row)) (kinds_of (drop l.i l.columns)) ≡ tuple_of l.columns l.row
