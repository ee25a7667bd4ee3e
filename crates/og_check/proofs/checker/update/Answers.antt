use Rattle.std.proofs.Common.{Ok, Err}
use Rattle.og_check.proofs.StatementSteps.{updates}
use Rattle.og_check.proofs.checker.update.Goals as goal

pub returns-in-Ok : goal.returns-in-Ok
returns-in-Ok g c = updates (g.C.Catalog.known c.args.known.now) c.args.name.now c.args.sets.now c.args.cond.now _ _ (Ok (c.in-Ok.name, c.in-Ok.cond)) c.in_ok-columns.ensures c.in_ok-sets.ensures c.in-Ok.ensures

pub returns-in-Err : goal.returns-in-Err
returns-in-Err g c = λ k. updates (g.C.Catalog.known c.args.known.now) c.args.name.now c.args.sets.now c.args.cond.now _ _ (Err c.in-Err.refusal) c.in_ok-columns.ensures c.in_ok-sets.ensures (c.in-Err.ensures k)
