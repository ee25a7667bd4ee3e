use Rattle.std.proofs.Common.{◌≡◌, ◌≤◌, ℤ, IfOk, length, map, subst, ap₂, ◌∙◌}
use Rattle.std.proofs.lemmas.Result.{IfOk-weaker}
use Rattle.og_base.specs.Calendar.{IsRefDay}
use Rattle.og_base.specs.Set.{set_of}
use Rattle.og_rel.specs.Relations.{relation_at}
use Rattle.og_value.specs.Values.{row_at}
use Rattle.og_query.specs.Queries.{image}
use Rattle.og_exec.specs.Answers.{rel_of}
use Rattle.og_exec.specs.Images.{images}
use Rattle.og_exec.specs.Tables.{rows_on}
use Rattle.og_exec.proofs.AnswerLemmas.{of_made}
use Rattle.og_exec.proofs.nodes.projected.Goals as goal

pub returns-clause-law : goal.returns-clause-law
returns-clause-law g c =
    of_made (λ rel. (d : ℤ) → IsRefDay d → rows_on rel d ≡ images (image d c.args.items.now) (rows_on (rel_of c.args.input) d)) _ _ c.made.ensures
    (IfOk-weaker c.apply_by_workers.result _ _
    (λ r law d day. law d day ∙ ap₂ (λ items input. images (image d items) (rows_on input d)) c.as_slice.ensures c.rel.ensures)
    (subst (λ order. IfOk c.apply_by_workers.result (λ r. (d : ℤ) → IsRefDay d → relation_at order row_at r d
    ≡ set_of order (map (image d c.as_slice.result.now) (relation_at order row_at c.rel.result.now d))))
    (λ i x y. c.order_of_rows.ensures.order x y i) c.apply_by_workers.ensures.law))

pub returns-clause-size : goal.returns-clause-size
returns-clause-size g c =
    of_made (λ rel. length rel ≤ length (rel_of c.args.input)) _ _ c.made.ensures
    (subst (λ input. IfOk c.apply_by_workers.result (λ r. length r ≤ length input)) c.rel.ensures c.apply_by_workers.ensures.size)
