use Rattle.std.proofs.Common.{◌∙◌, sym}
use Rattle.og_value.proofs.RowLemmas.{periods_alike}
use Rattle.og_value.proofs.value.are_alike.Goals as goal

pub returns-then-eq : goal.returns-then-eq
returns-then-eq c told =
    periods_alike c.args.i c.args.j _ _ _ _ c.start.ensures.point c.start-2.ensures.point c.end.ensures.point c.end-then-eq.ensures.point
    (sym c.eq.ensures ∙ c.if-eq.true) (sym c.eq-then-eq.ensures ∙ told)
