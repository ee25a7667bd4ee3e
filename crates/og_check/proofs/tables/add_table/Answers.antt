use Rattle.std.proofs.Common.{Ok, Err, refl}
use Rattle.std.proofs.lemmas.Result.{err_from_is_err_and}
use Rattle.og_check.specs.Names.{schemas_in}
use Rattle.og_check.specs.Shown.{from_in}
use Rattle.og_check.proofs.CoreSteps.{adds, one_longer}
use Rattle.og_check.proofs.tables.add_table.Goals as goal

pub returns : goal.returns
returns g c = record {
  from =
      adds (schemas_in c.args.names (g.C.Catalog.known c.args.known.now)) (from_in c.args.from.now) c.args.table.now _ c.in_ok-unused.field-0 _ _ c.of.result c.push.new.self _ c.in_ok-table_of.field-0 c.push-2.new.self _ (Ok _)
      c.in_ok-columns.ensures c.alias_of-alias.ensures c.as_slice.ensures c.in_ok-unused.ensures c.of.ensures c.in_ok-push.ensures.ok c.in_ok-table_of.ensures c.in_ok-push-2.ensures.ok
      c.as_slice-2.ensures c.of-2.ensures c.in_ok-add_cond.ensures;
  one = one_longer c.args.from.now.items c.of.result c.push.new.self c.in_ok-push.ensures.ok;
}

pub returns-in_err-add_cond : goal.returns-in_err-add_cond
returns-in_err-add_cond g c =
    let q = err_from_is_err_and c.from_residual-in_err-add_cond.result c.from_residual-in_err-add_cond.ensures.1 in
    rw (q.1, q.2) (record {
      from = λ k.
          adds (schemas_in c.args.names (g.C.Catalog.known c.args.known.now)) (from_in c.args.from.now) c.args.table.now _ c.in_ok-unused.field-0 _ _ c.of.result c.push.new.self _ _ _ _ (Err _)
          c.in_ok-columns.ensures c.alias_of-alias.ensures c.as_slice.ensures c.in_ok-unused.ensures c.of.ensures c.in_ok-push.ensures.ok refl refl
          c.as_slice-2.ensures c.of-2.ensures (c.in_err-add_cond.ensures k);
      one = tt;
    })
