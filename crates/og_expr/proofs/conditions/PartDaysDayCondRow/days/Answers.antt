use Rattle.std.proofs.Common.{◌++◌, ◌∙◌, ap, sym}
use Rattle.std.specs.List.{list_all}
use Rattle.std.proofs.lemmas.List.{append-nil}
use Rattle.std.proofs.lemmas.Result.{IfOk-weaker}
use Rattle.og_base.specs.Ranges.{holds_day}
use Rattle.og_value.specs.Values.{row_at}
use Rattle.og_query.specs.Conditions.{truth}
use Rattle.og_expr.proofs.BoundLemmas.{never_all}
use Rattle.og_expr.proofs.conditions.PartDaysDayCondRow.days.Goals as goal

pub returns-then-not-all_may_hold : goal.returns-then-not-all_may_hold
returns-then-not-all_may_hold c d day =
    let whole = ap (λ none. c.args.row.now ++ none) c.empty-none.ensures ∙ append-nil c.args.row.now in
    ap (λ days. holds_day days d) c.empty-then-not-all_may_hold.ensures
    ∙ sym (ap (λ row. list_all (truth d (row_at row d)) c.args.self.now.parts.now) (sym whole) ∙ never_all (c.args.row.now ++ c.empty-none.result) d c.args.self.now.parts.now (sym c.all_may_hold.ensures ∙ c.if-not-all_may_hold.true))

pub returns : goal.returns
returns c =
    let whole = ap (λ none. c.args.row.now ++ none) c.empty-none.ensures ∙ append-nil c.args.row.now in
    IfOk-weaker c.all_days.result _ _ (λ s law d day. law d day ∙ ap (λ row. list_all (truth d (row_at row d)) c.args.self.now.parts.now) whole) c.all_days.ensures

pub returns-then-not-first_may_hold : goal.returns-then-not-first_may_hold
returns-then-not-first_may_hold c d day =
    ap (λ days. holds_day days d) c.empty.ensures
    ∙ sym (never_all c.args.row.now d c.args.self.now.parts.now (c.first_may_hold.ensures (c.if-not-first_may_hold.true)))
