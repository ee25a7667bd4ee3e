use Rattle.std.proofs.Common.{◌≡◌, ◌≤◌, ℤ, length, subst₂, ap₂, ◌∙◌}
use Rattle.std.proofs.lemmas.Result.{IfOk-weaker}
use Rattle.og_base.specs.Calendar.{IsRefDay}
use Rattle.og_query.specs.Queries as meant
use Rattle.og_query.specs.Sizes.{combined_size}
use Rattle.og_exec.specs.Answers.{rel_of}
use Rattle.og_exec.specs.Tables.{rows_on}
use Rattle.og_exec.proofs.AnswerLemmas.{of_made}
use Rattle.og_exec.proofs.combine.combined.Goals as goal

pub returns-clause-law : goal.returns-clause-law
returns-clause-law g c =
    of_made (λ rel. (d : ℤ) → IsRefDay d → rows_on rel d ≡ meant.combined c.args.op (rows_on (rel_of c.args.inputs.left) d) (rows_on (rel_of c.args.inputs.right) d)) _ _ c.made.ensures
    (IfOk-weaker c.applied.result _ _
    (λ r law d day. law d day ∙ ap₂ (λ left right. meant.combined c.args.op (rows_on left d) (rows_on right d)) c.rel-left.ensures c.rel-right.ensures) c.applied.ensures.law)

pub returns-clause-size : goal.returns-clause-size
returns-clause-size g c =
    of_made (λ rel. length rel ≤ combined_size c.args.op (length (rel_of c.args.inputs.left)) (length (rel_of c.args.inputs.right))) _ _ c.made.ensures
    (IfOk-weaker c.applied.result _ _ (λ r size. subst₂ (λ left right. length r ≤ combined_size c.args.op (length left) (length right)) c.rel-left.ensures c.rel-right.ensures size) c.applied.ensures.size)
