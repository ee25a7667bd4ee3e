use Rattle.std.proofs.Common.{ap, sym, ◌∙◌}
use Rattle.std.proofs.lemmas.Result.{on_ok_weaker}
use Rattle.og_query.specs.Expressions.{meaning}
use Rattle.og_query.proofs.Equations.{meaning-Column}
use Rattle.og_reduce.proofs.same.share_values.Goals as goal

pub returns : goal.returns
returns c =
    on_ok_weaker c.spread-2.result (λ back d row same passing.
    let is =
    sym (ap (meaning d row) c.in-Some.ensures ∙ meaning-Column d row c.in-Some.m) ∙ same ∙ (ap (meaning d row) c.in-Some-column_of.ensures ∙ meaning-Column d row c.in-Some-column_of.n) in
    back row (sym is) (c.in_ok-spread.ensures row is passing)) c.spread-2.ensures
