use Rattle.std.proofs.Common.{◌∙◌, ap}
use Rattle.std.specs.List.{list_all}
use Rattle.std.proofs.lemmas.List.{map-append}
use Rattle.std.proofs.lemmas.Result.{IfOk-weaker}
use Rattle.og_value.specs.Values.{value_at}
use Rattle.og_query.specs.Conditions.{truth}
use Rattle.og_expr.proofs.conditions.PartDaysDayCondRow.days_of_pair.Goals as goal

pub returns : goal.returns
returns c =
    IfOk-weaker c.all_days.result _ _
    (λ s held d day. held d day ∙ ap (λ row. list_all (truth d row) c.args.self.now.parts.now) (map-append (λ v. value_at v d) c.args.left.now c.args.right.now)) c.all_days.ensures
