use Rattle.std.proofs.lemmas.Result.{IfOk-weaker}
use Rattle.og_query.specs.Conditions.{truth}
use Rattle.og_db.proofs.StatementLemmas.{left_fit}
use Rattle.og_db.proofs.changes.gone_of.Goals as goal

pub returns-clause-kinds : goal.returns-clause-kinds
returns-clause-kinds c =
    IfOk-weaker c.made_of.result _ _ (λ gone kinds columns. kinds columns (λ d day rows fit. left_fit columns (λ row. truth d row c.args.cond.now) rows fit)) c.made_of.ensures.kinds
