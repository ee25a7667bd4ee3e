use Rattle.std.proofs.Common.{◌∙◌, sym, List}
use Rattle.std.proofs.lemmas.Result.{err_from_is_err_and}
use Rattle.og_value.specs.declared.schema.Column.{Column}
use Rattle.og_value.specs.declared.value.Value.{Value}
use Rattle.og_check.specs.Statements.{tuple_of}
use Rattle.og_check.specs.Steps.{Checked}
use Rattle.og_check.proofs.StepLemmas.{turn_next, turn_stop, turn_done}
use Rattle.og_check.proofs.changes.rows_agree.Goals as goal

-- a tuple after those before
abbrev after : List Column → Unit {0} → List Value → Checked (Unit {0})
after columns _ row = tuple_of columns row

pub returns : goal.returns
returns c = sym c.each.invariant ∙ turn_done (after c.args.columns.now) tt _ c.each.row-index c.each-test.false

pub returns-in_err-row_agrees : goal.returns-in_err-row_agrees
returns-in_err-row_agrees c =
    let q = err_from_is_err_and c.from_residual.result c.from_residual.ensures.1 in
    rw (q.1, q.2) (λ k. sym c.each.invariant ∙ turn_stop (after c.args.columns.now) tt _ c.each.row-index c.row-item.result _ c.each-test.true c.row-item.is (c.in_err-row_agrees.ensures k))

pub each-preserved : goal.each-preserved
each-preserved c = turn_next (after c.args.columns.now) tt _ c.each.row-index c.row-item.result tt c.each-test.true c.row-item.is c.in_ok-row_agrees.ensures ∙ c.each.invariant
