use Rattle.std.proofs.Common.{◌∙◌, sym}
use Rattle.std.proofs.lemmas.Result.{err_from_is_err_and}
use Rattle.og_check.proofs.StepLemmas.{front-nil, each_next, each_stop, each_done}
use Rattle.og_check.specs.Names.{schemas_in}
use Rattle.og_check.specs.Cores.{semi_of}
use Rattle.og_check.proofs.tables.semis_of.Goals as goal

pub each-init : goal.each-init
each-init g c = rw c.new-typed.ensures (front-nil _)

pub returns : goal.returns
returns g c = sym c.each.invariant ∙ each_done (semi_of (schemas_in c.args.names (g.C.Catalog.known c.args.known.now)) c.args.items.now) c.each.typed _ _ c.each-test.false

pub returns-in_err-semi_of : goal.returns-in_err-semi_of
returns-in_err-semi_of g c =
    let q = err_from_is_err_and c.from_residual.result c.from_residual.ensures.1 in
    rw (q.1, q.2) (λ k. sym c.each.invariant ∙ each_stop (semi_of (schemas_in c.args.names (g.C.Catalog.known c.args.known.now)) c.args.items.now) c.each.typed _ c.each.semi-index c.semi-item.result _ c.each-test.true c.semi-item.is (c.in_err-semi_of.ensures k))

pub each-preserved : goal.each-preserved
each-preserved g c = rw c.in_ok-push.ensures.ok (each_next (semi_of (schemas_in c.args.names (g.C.Catalog.known c.args.known.now)) c.args.items.now) c.each.typed _ c.each.semi-index c.semi-item.result _ c.each-test.true c.semi-item.is c.in_ok-semi_of.ensures ∙ c.each.invariant)
