use Rattle.std.proofs.Common.{ap, sym, ◌∙◌}
use Rattle.std.proofs.lemmas.Result.{on_ok_weaker}
use Rattle.og_query.specs.Conditions.{compares}
use Rattle.og_query.specs.Expressions.{meaning}
use Rattle.og_reduce.proofs.SameLemmas.{same_value}
use Rattle.og_reduce.proofs.same.share_compared.Goals as goal

pub returns-in-Eq : goal.returns-in-Eq
returns-in-Eq c =
    on_ok_weaker c.share_values.result (λ shares d row holds passing.
    shares d row (same_value _ _ (ap (λ op. compares op (meaning d row c.args.left.now) (meaning d row c.args.right.now)) (sym c.in-Eq.is) ∙ holds)) passing) c.share_values.ensures
