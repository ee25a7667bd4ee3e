use Rattle.std.proofs.Common.{Ok, Err}
use Rattle.og_check.specs.Names.{schemas_in}
use Rattle.og_check.specs.Shown.{from_in}
use Rattle.og_check.proofs.CoreSteps.{selects}
use Rattle.og_check.proofs.cores.selected_of.Goals as goal

pub returns-in-Ok : goal.returns-in-Ok
returns-in-Ok g c =
    selects (schemas_in c.args.names (g.C.Catalog.known c.args.known.now)) c.args.core.now (from_in c.args.from.now) _ _ _ _ c.add_cond.new.conds c.in_ok-semis.semis (Ok (c.in-Ok.exprs, c.in-Ok.schema))
    c.as_slice.ensures c.of.ensures c.in_ok-add_cond.ensures c.as_slice-items.ensures c.as_slice-2.ensures c.in_ok-semis.ensures c.in-Ok.ensures

pub returns-in-Err : goal.returns-in-Err
returns-in-Err g c = λ k.
    selects (schemas_in c.args.names (g.C.Catalog.known c.args.known.now)) c.args.core.now (from_in c.args.from.now) _ _ _ _ c.add_cond.new.conds c.in_ok-semis.semis (Err c.in-Err.refusal)
    c.as_slice.ensures c.of.ensures c.in_ok-add_cond.ensures c.as_slice-items.ensures c.as_slice-2.ensures c.in_ok-semis.ensures (c.in-Err.ensures k)
