use Rattle.std.proofs.Common.{◌∙◌, arith}
use Rattle.og_lex.proofs.Numbers.{value_after-more}
use Rattle.og_lex.proofs.numeral.magnitude.Goals as goal

pub digits-preserved : goal.digits-preserved
digits-preserved c =
    (value_after-more _ c.digits.size c.digits.b-index c.args.digits.now c.saturating_add-size.result (omega (arith, c.digits-test.true)) (cc) ∙ c.digits.invariant.0, omega (arith, c.saturating_add-size.ensures))
