use Rattle.og_value.specs.declared.kind.Kind.TheVariants as k
use Rattle.og_query.specs.declared.condition.Cond.TheVariants as cond
use Rattle.og_check.specs.Expressions.{Kinded, expr_of}
use Rattle.og_check.specs.Steps.{◌>>◌, pure, same_kind}
use Rattle.og_check.proofs.GivesLemmas.{gives_both, gives_and_and}
use Rattle.og_check.proofs.conditions.contains_of.Goals as goal

pub returns : goal.returns
returns c =
    let y = c.in_ok-period in
    let given = λ (p q : Kinded). (do same_kind p.1 k.Period; same_kind q.1 k.Date; pure (cond.Contains p.0 q.0)) in
    gives_both (expr_of c.args.sight.now c.args.period.now) (expr_of c.args.sight.now c.args.day.now) given (y.period, y.first) (y.day, y.second) c.and-2.result y.ensures
    (rw (c.and-2.ensures, c.and.ensures) (gives_and_and c.same_kind.result c.same_kind-2.result (same_kind y.first k.Period) (same_kind y.second k.Date) (cond.Contains y.period y.day) c.same_kind.ensures c.same_kind-2.ensures))
