use Rattle.std.proofs.Common.{◌≡◌, ◌≤◌, ℤ, IfOk, filter, length, subst}
use Rattle.og_base.specs.Calendar.{IsRefDay}
use Rattle.og_rel.specs.Relations.{relation_at}
use Rattle.og_value.specs.Values.{row_at}
use Rattle.og_plan.specs.Meaning.{all_hold}
use Rattle.og_exec.specs.Answers.{rel_of}
use Rattle.og_exec.specs.Tables.{rows_on}
use Rattle.og_exec.proofs.AnswerLemmas.{of_made}
use Rattle.og_exec.proofs.nodes.filtered.Goals as goal

pub returns-clause-law : goal.returns-clause-law
returns-clause-law g c =
    of_made (λ rel. (d : ℤ) → IsRefDay d → rows_on rel d ≡ filter (all_hold d c.args.parts.now) (rows_on (rel_of c.args.input) d)) _ _ c.made.ensures
    (subst (λ input. IfOk c.apply_by_workers.result (λ r. (d : ℤ) → IsRefDay d → rows_on r d ≡ filter (all_hold d c.args.parts.now) (rows_on input d))) c.rel.ensures
    (subst (λ order. IfOk c.apply_by_workers.result (λ r. (d : ℤ) → IsRefDay d → relation_at order row_at r d ≡ filter (all_hold d c.args.parts.now) (relation_at order row_at c.rel.result.now d)))
    (λ i x y. c.order_of_rows.ensures.order x y i) c.apply_by_workers.ensures.law))

pub returns-clause-size : goal.returns-clause-size
returns-clause-size g c =
    of_made (λ rel. length rel ≤ length (rel_of c.args.input)) _ _ c.made.ensures
    (subst (λ input. IfOk c.apply_by_workers.result (λ r. length r ≤ length input)) c.rel.ensures c.apply_by_workers.ensures.size)
