use Rattle.std.proofs.Common.{◌≡◌, ◌≤◌, ◌*◌, ◌++◌, ℤ, true, IfOk, length, subst, subst₂, ap₂, ◌∙◌}
use Rattle.std.proofs.lemmas.Result.{IfOk-weaker}
use Rattle.og_base.specs.Calendar.{IsRefDay}
use Rattle.og_base.specs.Set.{set_of}
use Rattle.og_ops.specs.Plain.{products}
use Rattle.og_rel.specs.Relations.{relation_at}
use Rattle.og_value.specs.Values.{row_at}
use Rattle.og_plan.specs.Meaning.{matches}
use Rattle.og_exec.specs.Answers.{rel_of}
use Rattle.og_exec.specs.Tables.{rows_on}
use Rattle.og_exec.proofs.AnswerLemmas.{of_made}
use Rattle.og_exec.proofs.MatchLemmas.{matches-all}
use Rattle.og_exec.proofs.nodes.multiplied.Goals as goal

pub returns-clause-law : goal.returns-clause-law
returns-clause-law c =
    of_made (λ rel. (d : ℤ) → IsRefDay d → rows_on rel d ≡ matches (λ _ _. true) (rows_on (rel_of c.args.inputs.left) d) (rows_on (rel_of c.args.inputs.right) d)) _ _ c.made.ensures
    (IfOk-weaker c.apply.result _ _
    (λ r law d day. law d day ∙ matches-all (rows_on c.rel.result.now d) (rows_on c.rel-2.result.now d)
    ∙ ap₂ (λ left right. matches (λ _ _. true) (rows_on left d) (rows_on right d)) c.rel.ensures c.rel-2.ensures)
    (subst (λ order. IfOk c.apply.result (λ r. (d : ℤ) → IsRefDay d
    → relation_at order row_at r d ≡ set_of order (products (λ x y. x ++ y) (relation_at order row_at c.rel.result.now d) (relation_at order row_at c.rel-2.result.now d))))
    (λ i x y. c.order_of_rows.ensures.order x y i) c.apply.ensures.law))

pub returns-clause-size : goal.returns-clause-size
returns-clause-size c =
    of_made (λ rel. length rel ≤ length (rel_of c.args.inputs.left) * length (rel_of c.args.inputs.right)) _ _ c.made.ensures
    (IfOk-weaker c.apply.result _ _ (λ r size. subst₂ (λ left right. length r ≤ length left * length right) c.rel.ensures c.rel-2.ensures size) c.apply.ensures.size)
