use Rattle.std.proofs.Common.{ap, sym, ◌∙◌}
use Rattle.std.proofs.lemmas.Result.{on_ok_weaker}
use Rattle.og_query.specs.Conditions.{truth}
use Rattle.og_query.proofs.Equations.{truth-And, truth-Compare}
use Rattle.std.specs.List.{list_all}
use Rattle.std.proofs.lemmas.List.{take_all}
use Rattle.og_reduce.proofs.SameLemmas.{holds_more}
use Rattle.og_reduce.proofs.same.+same.Goals as goal

pub share_each-parts-preserved : goal.share_each-parts-preserved
share_each-parts-preserved t c d row holds passing =
    let both = holds_more (truth d row) _ c.parts.part-index _ c.parts-test.true c.part-item.is holds in
    c.in_ok-share.ensures d row both.1 (c.parts.invariant d row both.0 passing)

pub share-returns-in-And : goal.share-returns-in-And
share-returns-in-And t c =
    on_ok_weaker c.share_each.result (λ shares d row holds passing. shares d row (sym (truth-And d row c.in-And.parts) ∙ sym (ap (truth d row) c.in-And.is) ∙ holds) passing) c.share_each.ensures

pub share-returns-in-Compare : goal.share-returns-in-Compare
share-returns-in-Compare t c =
    let part = c.in-Compare in
    on_ok_weaker c.share_compared.result (λ shares d row holds passing. shares d row (sym (ap (truth d row) part.is ∙ truth-Compare d row part.op part.left part.right) ∙ holds) passing) c.share_compared.ensures

pub share_each-returns : goal.share_each-returns
share_each-returns t c d row holds passing =
    c.parts.invariant d row (ap (list_all (truth d row)) (take_all c.parts.part-index _ c.parts-test.false) ∙ ap (list_all (truth d row)) c.as_slice-part-items.ensures ∙ holds) passing
