use Rattle.std.proofs.Common.{ap₂, subst}
use Rattle.std.proofs.lemmas.Result.{on_ok_weaker}
use Rattle.og_query.specs.declared.typed.Typed.TheVariants as t
use Rattle.og_db.specs.Effects.{on_names}
use Rattle.og_db.specs.Statements.{IsOfNames}
use Rattle.og_session.specs.Names.{IsDone}
use Rattle.og_session.proofs.StateLemmas.{imported_done}
use Rattle.og_session.proofs.files.insert.Goals as goal

pub returns-clause-done : goal.returns-clause-done
returns-clause-done g c =
    on_ok_weaker c.change.result
    (λ done. imported_done c.args.names.now c.change.new.self c.args.name.now c.args.rows.items
    (subst (λ s. (of : IsOfNames s) → IsDone c.args.names.now c.change.new.self (on_names (s, of))) (ap₂ t.Insert c.in_ok-copy.ensures c.from_vec.ensures) done tt))
    c.change.ensures.done
