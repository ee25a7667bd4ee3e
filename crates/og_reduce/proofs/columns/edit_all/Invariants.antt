use Rattle.og_reduce.specs.Columns.{edited}
use Rattle.og_reduce.proofs.ColumnLemmas.{AreEdited}
use Rattle.og_reduce.proofs.columns.edit_all.Given as goal

abbrev pub invariant-columns : goal.invariant-columns
invariant-columns l = AreEdited (edited l.edit) l.i l.initial.columns.items l.columns.items
