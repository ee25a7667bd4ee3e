use Rattle.std.proofs.Common.{◌<◌, sym, subst, arith}
use Rattle.og_expr.specs.ColumnTests.{TellsAll}
use Rattle.og_expr.proofs.ColumnLemmas.{tells-and}
use Rattle.og_expr.proofs.column_test.test_of_all.Goals.{in-Some, in_default}
use Rattle.og_expr.proofs.column_test.test_of_all.Goals as goal

pub parts-preserved : goal.parts-preserved
parts-preserved c =
    elim c.match-test_of.branch [
      | in-Some w ↦
          let items = c.as_slice-part-items.ensures in
          subst (λ test. TellsAll test c.args.parts.now) (sym w.test-is)
          (subst (TellsAll w.and-test.result) items
          (tells-and c.parts.test w.in-Some.other w.and-test.result w.and-test.ensures c.as_slice-part-items.result.now (subst (TellsAll c.parts.test) (sym items) c.parts.invariant)
          c.parts.part-index c.part-item.result (omega (arith, c.parts-test.true)) c.part-item.is w.in-Some.ensures))
      | in_default w ↦ subst (λ test. TellsAll test c.args.parts.now) (sym w.test-is) c.parts.invariant
    ]
