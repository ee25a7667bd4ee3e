use Rattle.std.proofs.Common.{Ok, Err}
use Rattle.std.proofs.lemmas.Result.{err_from_is_err_and}
use Rattle.og_check.proofs.StatementSteps.{deletes}
use Rattle.og_check.proofs.checker.delete.Goals as goal

pub returns : goal.returns
returns g c = deletes (g.C.Catalog.known c.args.known.now) c.args.name.now c.args.cond.now _ (Ok (c.in_ok-name.name, c.in_ok-name.cond)) c.in_ok-columns.ensures c.in_ok-name.ensures

pub returns-in_err-name : goal.returns-in_err-name
returns-in_err-name g c =
    let q = err_from_is_err_and c.from_residual-in_err-name.result c.from_residual-in_err-name.ensures.1 in
    rw (q.1, q.2) (λ k. deletes (g.C.Catalog.known c.args.known.now) c.args.name.now c.args.cond.now _ (Err _) c.in_ok-columns.ensures (c.in_err-name.ensures k))
