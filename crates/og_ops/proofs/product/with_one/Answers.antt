use Rattle.std.proofs.Common.{◌≡◌, ◌&&◌, ℤ, [], ◌∷◌, IfSome, ap, subst, ◌∙◌, if◌then◌else◌}
use Rattle.std.proofs.lemmas.Result.{on_ok_weaker}
use Rattle.og_base.specs.Calendar.{IsRefDay}
use Rattle.og_base.specs.Ranges.{holds_day}
use Rattle.og_ops.proofs.RowLemmas.{pushed_rows, products-one}
use Rattle.og_ops.proofs.product.with_one.Goals as goal

pub returns-in-Some-clause-rows : goal.returns-in-Some-clause-rows
returns-in-Some-clause-rows g c =
    let at = g.R.Instant.meaning in
    let glued = g.R.Glue.glued in
    let left = c.args.row.now in
    let right = c.args.right.now in
    let row_is = subst (λ o. IfSome o (λ h. (d : ℤ) → IsRefDay d → at h.row d ≡ glued (at left d) (at right d))) c.in-Some.is c.in_ok-row.ensures.row in
    let days_are = subst (λ o. IfSome o (λ h. (d : ℤ) → holds_day h.days d ≡ (holds_day c.args.days.now d && holds_day c.args.right_days.now d))) c.in-Some.is c.in_ok-row.ensures.days in
    on_ok_weaker c.push.result (λ e d r. pushed_rows at _ _ _ _ d _ e
    (ap (λ x. if holds_day c.in-Some.field-0.days d then x ∷ [] else []) (row_is d r)
    ∙ products-one glued (at left d) (at right d) (holds_day c.args.days.now d) (holds_day c.args.right_days.now d) _ (days_are d))) c.push.ensures.pushed
