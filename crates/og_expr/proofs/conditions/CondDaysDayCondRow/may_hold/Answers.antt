use Rattle.std.proofs.Common.{◌++◌, ◌∙◌, ap, sym}
use Rattle.std.proofs.lemmas.List.{map-append}
use Rattle.og_value.specs.Values.{value_at}
use Rattle.og_query.specs.Conditions.{truth}
use Rattle.og_expr.proofs.BoundLemmas.{never_holds}
use Rattle.og_expr.proofs.conditions.CondDaysDayCondRow.may_hold.Goals as goal

pub returns : goal.returns
returns c never d day =
    ap (λ row. truth d row c.args.self.now.cond.now) (sym (map-append (λ v. value_at v d) c.args.left.now c.args.right.now))
    ∙ never_holds (c.args.left.now ++ c.args.right.now) d c.args.self.now.cond.now (sym c.may_hold.ensures ∙ never)
