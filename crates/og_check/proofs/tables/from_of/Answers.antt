use Rattle.std.proofs.Common.{◌∙◌, sym, arith}
use Rattle.std.proofs.lemmas.Result.{err_from_is_err_and}
use Rattle.og_check.specs.Cores.{with_table}
use Rattle.og_check.specs.Names.{schemas_in}
use Rattle.og_check.specs.Shown.{from_in}
use Rattle.og_check.proofs.StepLemmas.{turn_next, turn_stop, turn_done}
use Rattle.og_check.proofs.tables.from_of.Goals as goal

pub returns : goal.returns
returns g c = record {
  from = sym c.each.invariant.0 ∙ turn_done (with_table (schemas_in c.args.names (g.C.Catalog.known c.args.known.now))) (from_in c.each.from) _ c.each.table-index c.each-test.false;
  few = omega (arith, c.each.invariant.1, c.each.invariant.2, c.requires);
}

pub returns-in_err-add_table : goal.returns-in_err-add_table
returns-in_err-add_table g c =
    let q = err_from_is_err_and c.from_residual.result c.from_residual.ensures.1 in
    rw (q.1, q.2) (record {
      from = λ k. sym c.each.invariant.0 ∙ turn_stop (with_table (schemas_in c.args.names (g.C.Catalog.known c.args.known.now))) (from_in c.each.from) _ c.each.table-index c.table-item.result _ c.each-test.true c.table-item.is (c.in_err-add_table.ensures.from k);
      few = tt;
    })

pub each-preserved : goal.each-preserved
each-preserved g c = (
  turn_next (with_table (schemas_in c.args.names (g.C.Catalog.known c.args.known.now))) (from_in c.each.from) _ c.each.table-index c.table-item.result _ c.each-test.true c.table-item.is c.in_ok-add_table.ensures.from ∙ c.each.invariant.0,
  omega (arith, c.in_ok-add_table.ensures.one, c.each.invariant.1),
  omega (arith, c.each-test.true),
)
