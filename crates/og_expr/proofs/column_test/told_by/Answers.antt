use Rattle.std.proofs.Common.{IfSome, Option, Some, None, ap, ◌∙◌}
use Rattle.og_expr.specs.Bounds.{may_hold}
use Rattle.og_expr.specs.ColumnTests.{Tells, TellsAll}
use Rattle.og_expr.specs.declared.column_test.ColumnTest.{ColumnTest}
use Rattle.og_expr.proofs.BoundLemmas.{may_hold-And}
use Rattle.og_expr.proofs.column_test.told_by.Goals as goal

pub returns-in-And : goal.returns-in-And
returns-in-And c = told c.test_of_all.result c.test_of_all.ensures
  where
    told : (found : Option ColumnTest) → IfSome found (λ test. TellsAll test c.in-And.parts) → IfSome found (λ test. Tells test c.args.cond.now)
    told None h = h
    told (Some test) h = λ row never. ap (may_hold row) c.in-And.is ∙ may_hold-And row c.in-And.parts ∙ h row never
