use Rattle.std.proofs.Common.{◌∙◌, ap, sym}
use Rattle.std.proofs.lemmas.Result.{IfOk-weaker}
use Rattle.og_base.specs.Ranges.{holds_day}
use Rattle.og_value.specs.Values.{row_at}
use Rattle.og_query.specs.Conditions.{truth}
use Rattle.og_query.proofs.Equations.{truth-And, truth-Or}
use Rattle.og_expr.proofs.PartLemmas.{all_and_one_more, any_or_one_more}
use Rattle.og_expr.proofs.conditions.+conditions.Goals as goal

pub all_days-parts-preserved : goal.all_days-parts-preserved
all_days-parts-preserved t c = λ d day.
    all_and_one_more (truth d (row_at c.args.columns.now d)) _ c.parts.part-index _ (holds_day c.parts.held d) (holds_day c.in_ok-days.field-0 d) (holds_day c.in_ok-held-2.held d)
    c.parts-test.true c.part-item.is (c.in_ok-days.ensures d day) (c.parts.invariant d day) (c.in_ok-held-2.ensures d)

pub any_days-parts-preserved : goal.any_days-parts-preserved
any_days-parts-preserved t c = λ d day.
    any_or_one_more (truth d (row_at c.args.columns.now d)) _ c.parts.part-index _ (holds_day c.parts.held d) (holds_day c.in_ok-days.field-0 d) (holds_day c.in_ok-held.held d)
    c.parts-test.true c.part-item.is (c.in_ok-days.ensures d day) (c.parts.invariant d day) (c.in_ok-held.ensures d)

pub days-returns-in-And : goal.days-returns-in-And
days-returns-in-And t c =
    IfOk-weaker c.all_days.result _ _
    (λ s held d day. held d day ∙ sym (truth-And d (row_at c.args.columns.now d) c.in-And.parts) ∙ ap (truth d (row_at c.args.columns.now d)) (sym c.in-And.is)) c.all_days.ensures

pub days-returns-in-Or : goal.days-returns-in-Or
days-returns-in-Or t c =
    IfOk-weaker c.any_days.result _ _
    (λ s held d day. held d day ∙ sym (truth-Or d (row_at c.args.columns.now d) c.in-Or.parts) ∙ ap (truth d (row_at c.args.columns.now d)) (sym c.in-Or.is)) c.any_days.ensures
