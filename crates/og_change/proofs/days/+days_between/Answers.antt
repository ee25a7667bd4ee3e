use Rattle.std.proofs.Common.{◌||◌, ◌+◌, ◌-◌, ◌/◌, ap, ap₂, ◌∙◌, arith}
use Rattle.std.proofs.lemmas.Result.{IfOk-weaker}
use Rattle.og_base.specs.Ranges.{holds_day}
use Rattle.og_change.proofs.SameLemmas.{list_any-halves, list_any-one}
use Rattle.og_change.proofs.days.+days_between.Goals as goal

pub returns-then-count-eq1 : goal.returns-then-count-eq1
returns-then-count-eq1 g t c =
    IfOk-weaker c.copy.result _ _ (λ s e d. ap (λ days. holds_day days d) e
    ∙ list_any-one (λ p. holds_day p.1 d) c.args.from c.args.to c.args.rel.now (holds_day c.days.result.now d) (omega arith) (omega arith) (λ p. ap (λ days. holds_day days d) (c.days.ensures p))) c.copy.ensures

pub returns : goal.returns
returns g t c =
    IfOk-weaker c.union.result _ _ (λ s e d. e d
    ∙ ap₂ (λ a b. a || b) (c.in_ok-first.ensures d) (c.in_ok-rest.ensures d)
    ∙ list_any-halves (λ p. holds_day p.1 d) c.args.from (c.args.from + (c.args.to - c.args.from) / 2) c.args.to c.args.rel.now (omega arith) (omega arith)) c.union.ensures
