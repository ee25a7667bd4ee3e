use Rattle.og_expr.specs.ColumnTests.{TellsAll}
use Rattle.og_expr.proofs.column_test.test_of_all.Given as goal

abbrev pub invariant-parts : goal.invariant-parts
invariant-parts l = TellsAll l.test l.parts
