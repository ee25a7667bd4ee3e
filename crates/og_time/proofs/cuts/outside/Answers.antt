use Rattle.std.proofs.Common.{◌∙◌, ◌||◌, int_lt, ap, arith}
use Rattle.std.proofs.lemmas.Int.{ints}
use Rattle.og_time.proofs.CutLemmas.{from_next, none_after, no_next}
use Rattle.og_time.proofs.cuts.outside.Goals as goal

pub returns-in-Some : goal.returns-in-Some
returns-in-Some c d r = c.around.ensures d r ∙ ap (λ b. int_lt d c.args.end || b) (from_next d c.args.last c.in-Some.next (omega (arith, ints, c.number.ensures.value, c.number.ensures.range, c.in-Some.ensures)))

pub returns-in-None : goal.returns-in-None
returns-in-None c d r = c.between-in-None.ensures d r ∙ none_after d c.args.end c.args.last r (no_next c.args.last _ (omega (arith, ints, c.number.ensures.value, c.number.ensures.range)) (omega (arith, ints, c.number.ensures.value, c.number.ensures.range)) c.in-None.ensures)
