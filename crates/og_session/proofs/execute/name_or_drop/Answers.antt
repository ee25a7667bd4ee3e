use Rattle.std.proofs.Common.{◌∙◌, OnOk, ap₂, subst, sym}
use Rattle.std.proofs.lemmas.Result.{on_ok_weaker}
use Rattle.og_query.specs.declared.typed.Typed.TheVariants as t
use Rattle.og_db.specs.Effects.{on_names}
use Rattle.og_db.specs.Statements.{IsOfNames}
use Rattle.og_session.specs.Names.{IsDone}
use Rattle.og_session.proofs.NameSteps.{is_written}
use Rattle.og_session.proofs.execute.name_or_drop.Goals as goal

pub returns-in_ok-copy-in-Create-2-clause-done : goal.returns-in_ok-copy-in-Create-2-clause-done
returns-in_ok-copy-in-Create-2-clause-done g c =
    on_ok_weaker c.create.result
    (λ done. subst (λ s. (of : IsOfNames s) → IsDone c.args.names.now c.create.new.self (on_names (s, of))) (sym (c.in-Create.is ∙ ap₂ t.Create (sym c.in_ok-copy-in-Create.ensures) (sym c.in_ok-copy-in-Create-2.ensures))) (λ of. done))
    c.create.ensures.done

pub returns-in-Drop-clause-done : goal.returns-in-Drop-clause-done
returns-in-Drop-clause-done g c = subst (λ s. (of : IsOfNames s) → IsDone c.args.names.now c.drop_name.new.self (on_names (s, of))) (sym c.in-Drop.is) (λ of. c.drop_name.ensures)

pub returns-in-Keep-clause-done : goal.returns-in-Keep-clause-done
returns-in-Keep-clause-done g c =
    subst (λ s. OnOk c.keep.result ((of : IsOfNames s) → IsDone c.args.names.now c.keep.new.names (on_names (s, of)))) (sym c.in-Keep.is) (on_ok_weaker c.keep.result (λ done of. done) c.keep.ensures.done)

pub returns-in-Live-clause-done : goal.returns-in-Live-clause-done
returns-in-Live-clause-done g c =
    subst (λ s. OnOk c.live.result ((of : IsOfNames s) → IsDone c.args.names.now c.live.new.self (on_names (s, of)))) (sym c.in-Live.is) (on_ok_weaker c.live.result (λ done of. done) c.live.ensures.done)

pub returns-in_default : goal.returns-in_default
returns-in_default g c =
    let not = c.in_default in
    record { done = λ of. c.stay.ensures (c.args.stmt.now, of) (is_written c.args.stmt.now of c.requires.other not.not-Create not.not-Drop not.not-Keep not.not-Live); refused = tt }
