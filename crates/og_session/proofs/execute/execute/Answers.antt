use Rattle.std.proofs.Common.{OnOk, subst}
use Rattle.og_db.specs.Effects.{on_names}
use Rattle.og_db.specs.Statements.{IsOfNames}
use Rattle.og_session.specs.Names.{IsDone}
use Rattle.og_session.proofs.execute.execute.Goals as goal

pub returns-in-Insert-clause-done : goal.returns-in-Insert-clause-done
returns-in-Insert-clause-done g c =
    subst (λ names. OnOk c.change.result ((of : IsOfNames c.args.stmt) → IsDone names c.change.new.self (on_names (c.args.stmt, of)))) c.keep_columns.ensures c.change.ensures.done
