use Rattle.std.proofs.Common.{sym, ap, ◌∙◌}
use Rattle.std.proofs.lemmas.Result.{IfOk-weaker}
use Rattle.og_rel.specs.Relations.{relation_at}
use Rattle.og_value.specs.Values.{row_at}
use Rattle.og_exec.specs.Answers.{rel_of}
use Rattle.og_exec.specs.Tables.{rows_on}
use Rattle.og_exec.proofs.run.exec.Goals as goal

pub returns-in-Lent-clause-law : goal.returns-in-Lent-clause-law
returns-in-Lent-clause-law g c =
    IfOk-weaker c.copy.result _ _
    (λ r e d day. (λ i. relation_at (λ x y. c.order_of_rows.ensures.order x y i) row_at r d) ∙ ap (λ rel. rows_on rel d) e
    ∙ ap (λ a. rows_on (rel_of a) d) (sym c.in-Lent.is) ∙ c.in_ok-rel.ensures.law d day) c.copy.ensures
