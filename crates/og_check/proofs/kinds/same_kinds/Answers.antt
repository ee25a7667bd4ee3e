use Rattle.std.proofs.Common.{◌∙◌, sym}
use Rattle.std.proofs.lemmas.Result.{err_from_is_err_and}
use Rattle.og_check.proofs.StepLemmas.{kinds_next, kinds_stop}
use Rattle.og_check.proofs.kinds.same_kinds.Goals as goal

pub kinds-preserved : goal.kinds-preserved
kinds-preserved c = kinds_next _ _ c.kinds.i _ _ c.kinds-test.true c.requires c.in_ok-same_kind.ensures ∙ c.kinds.invariant

pub returns-in_err-same_kind : goal.returns-in_err-same_kind
returns-in_err-same_kind c =
    let q = err_from_is_err_and c.from_residual.result c.from_residual.ensures.1 in
    rw (q.1, q.2) (λ f. sym c.kinds.invariant ∙ kinds_stop _ _ c.kinds.i _ _ _ c.kinds-test.true c.requires (c.in_err-same_kind.ensures f))
