use Rattle.std.proofs.Common.{◌≡◌, ◌++◌, ℤ, Bool, true, false, not, IfOk, filter, if◌then◌else◌, subst, refl, ap, ◌∙◌}
use Rattle.std.specs.List.{list_any}
use Rattle.std.proofs.lemmas.Result.{IfOk-weaker}
use Rattle.og_base.specs.Calendar.{IsRefDay}
use Rattle.og_ops.specs.Wanted.{is_wanted}
use Rattle.og_rel.specs.Relations.{relation_at}
use Rattle.og_value.specs.Values.{row_at}
use Rattle.og_plan.specs.Meaning.{all_hold}
use Rattle.og_exec.specs.Tables.{rows_on}
use Rattle.og_exec.proofs.semis.semijoined.Goals as goal

-- the wanted truth, by cases
wanted_is : (positive b : Bool) → is_wanted positive b ≡ (if positive then b else not b)
wanted_is true b = refl
wanted_is false b = refl

pub returns-clause-law : goal.returns-clause-law
returns-clause-law g c =
    let semi = c.args.semi.now in
    IfOk-weaker c.apply_by_workers.result _ _
    (λ r law d day. law d day
    ∙ (λ i. filter (λ x. wanted_is semi.positive (list_any (λ y. all_hold d semi.parts (x ++ y)) ((ap (λ rel. rows_on rel d) c.rel.ensures ∙ c.lent-table.ensures.law d) i)) i) (rows_on c.args.input.now d)))
    (subst (λ order. IfOk c.apply_by_workers.result (λ r. (d : ℤ) → IsRefDay d
    → relation_at order row_at r d
    ≡ filter (λ x. is_wanted semi.positive (list_any (λ y. all_hold d semi.parts (x ++ y)) (relation_at order row_at c.rel.result.now d))) (relation_at order row_at c.args.input.now d)))
    (λ i x y. c.order_of_rows.ensures.order x y i) c.apply_by_workers.ensures.law)
