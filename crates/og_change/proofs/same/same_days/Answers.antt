use Rattle.std.proofs.Common.{not, ap, ◌∙◌}
use Rattle.std.proofs.lemmas.Result.{IfOk-weaker}
use Rattle.og_base.specs.Ranges.{holds_day}
use Rattle.og_base.specs.Set.{IsExactOrder}
use Rattle.og_change.proofs.SameLemmas.{tells_same}
use Rattle.og_change.proofs.same.same_days.Goals as goal

pub returns : goal.returns
returns g c =
    let at = g.R.Instant.meaning in
    let o : IsExactOrder g.R.Fixed.Ord.cmp = record { total = g.met.R.Fixed.Ord.total; exact = g.met.R.Instant.exact } in
    IfOk-weaker c.complement.result _ _ (λ s held e r. tells_same o at c.args.rel.now c.in_ok-frozen.frozen c.in_ok-gone.gone c.in_ok-come.come c.args.d e
    (holds_day s e) (holds_day c.in_ok-days_of.field-0 e) (holds_day c.in_ok-days_of-2.field-0 e)
    (c.in_ok-frozen.ensures e r) (c.in_ok-gone.ensures.law e r) (c.in_ok-come.ensures.law e r) (c.in_ok-days_of.ensures e) (c.in_ok-days_of-2.ensures e)
    (held e r ∙ ap not (c.in_ok-changed.ensures e))) c.complement.ensures
