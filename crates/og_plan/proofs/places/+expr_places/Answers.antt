use Rattle.std.proofs.Common.{◌≡◌, ◌++◌, OnOk, subst, ap, sym, ◌∙◌}
use Rattle.og_plan.specs.Parts.{expr_places}
use Rattle.og_plan.proofs.PartEquations.{expr_places-Call}
use Rattle.og_plan.proofs.places.+expr_places.Goals as goal

pub expr_places-returns-in-Call : goal.expr_places-returns-in-Call
expr_places-returns-in-Call t c =
    subst (λ places. OnOk c.all_expr_places.result (c.all_expr_places.new.out.items ≡ c.args.out.now.items ++ places))
    (sym (expr_places-Call c.in-Call.func c.in-Call.args) ∙ ap expr_places (sym c.in-Call.is)) c.all_expr_places.ensures
