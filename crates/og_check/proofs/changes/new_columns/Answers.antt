use Rattle.std.proofs.Common.{◌++◌, ◌∷◌, [], ◌∙◌, ap, sym}
use Rattle.std.proofs.lemmas.List.{take_all}
use Rattle.std.proofs.lemmas.Result.{err_from_is_err_and}
use Rattle.og_check.specs.Statements.{with_column}
use Rattle.og_check.proofs.Parts.{taken}
use Rattle.og_check.proofs.StepLemmas.{turn_next, turn_stop, turn_done}
use Rattle.og_check.proofs.changes.new_columns.Goals as goal

pub returns : goal.returns
returns c = record {
  new = sym c.each.invariant.0 ∙ turn_done with_column c.each.new.items _ c.each.column-index c.each-test.false;
  same = c.each.invariant.1 ∙ take_all c.each.column-index c.args.columns.now c.each-test.false;
}

pub returns-in_err-add_column : goal.returns-in_err-add_column
returns-in_err-add_column c =
    let q = err_from_is_err_and c.from_residual.result c.from_residual.ensures.1 in
    rw (q.1, q.2) (record {
      new = λ k. sym c.each.invariant.0 ∙ turn_stop with_column c.each.new.items _ c.each.column-index c.column-item.result _ c.each-test.true c.column-item.is (c.in_err-add_column.ensures.new k);
      same = tt;
    })

pub each-preserved : goal.each-preserved
each-preserved c = (
  turn_next with_column c.each.new.items _ c.each.column-index c.column-item.result _ c.each-test.true c.column-item.is c.in_ok-add_column.ensures.new ∙ c.each.invariant.0,
  c.in_ok-add_column.ensures.same ∙ ap (λ xs. xs ++ c.column-item.result ∷ []) c.each.invariant.1 ∙ taken c.args.columns.now c.each.column-index c.column-item.result c.each-test.true c.column-item.is,
)
