use Rattle.std.proofs.Common.{◌≡◌, ℤ, IfOk, sym, subst}
use Rattle.og_base.specs.Calendar.{IsRefDay}
use Rattle.og_rel.specs.Algebra.{union, except, intersect}
use Rattle.og_rel.specs.Relations.{relation_at}
use Rattle.og_value.specs.Values.{row_at}
use Rattle.og_query.specs.Queries.{combined}
use Rattle.og_exec.specs.Tables.{rows_on}
use Rattle.og_exec.proofs.combine.applied.Goals as goal

pub returns-in-Union-clause-law : goal.returns-in-Union-clause-law
returns-in-Union-clause-law g c =
    subst (λ op. IfOk c.apply_by_workers.result (λ r. (d : ℤ) → IsRefDay d → rows_on r d ≡ combined op (rows_on c.args.left.now d) (rows_on c.args.right.now d))) (sym c.in-Union.is)
    (subst (λ order. IfOk c.apply_by_workers.result (λ r. (d : ℤ) → IsRefDay d → relation_at order row_at r d ≡ union order (relation_at order row_at c.args.left.now d) (relation_at order row_at c.args.right.now d)))
    (λ i x y. c.order_of_rows.ensures.order x y i) c.apply_by_workers.ensures.law)

pub returns-in-Except-clause-law : goal.returns-in-Except-clause-law
returns-in-Except-clause-law g c =
    subst (λ op. IfOk c.apply_by_workers-in-Except.result (λ r. (d : ℤ) → IsRefDay d → rows_on r d ≡ combined op (rows_on c.args.left.now d) (rows_on c.args.right.now d))) (sym c.in-Except.is)
    (subst (λ order. IfOk c.apply_by_workers-in-Except.result (λ r. (d : ℤ) → IsRefDay d → relation_at order row_at r d ≡ except order (relation_at order row_at c.args.left.now d) (relation_at order row_at c.args.right.now d)))
    (λ i x y. c.order_of_rows.ensures.order x y i) c.apply_by_workers-in-Except.ensures.law)

pub returns-in-Intersect-clause-law : goal.returns-in-Intersect-clause-law
returns-in-Intersect-clause-law g c =
    subst (λ op. IfOk c.apply_by_workers-in-Intersect.result (λ r. (d : ℤ) → IsRefDay d → rows_on r d ≡ combined op (rows_on c.args.left.now d) (rows_on c.args.right.now d))) (sym c.in-Intersect.is)
    (subst (λ order. IfOk c.apply_by_workers-in-Intersect.result (λ r. (d : ℤ) → IsRefDay d → relation_at order row_at r d ≡ intersect order (relation_at order row_at c.args.left.now d) (relation_at order row_at c.args.right.now d)))
    (λ i x y. c.order_of_rows.ensures.order x y i) c.apply_by_workers-in-Intersect.ensures.law)
