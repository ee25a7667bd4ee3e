use Rattle.std.proofs.Common.{subst, sym}
use Rattle.std.specs.List.{All}
use Rattle.og_query.specs.Fits.{IsFit, IsFitAssign}
use Rattle.og_query.specs.declared.typed.Typed.TheVariants as t
use Rattle.og_db.specs.Deltas.{DoesStatement}
use Rattle.og_db.specs.Held.{known_of}
use Rattle.og_db.specs.Statements.{IsOfNames}
use Rattle.og_session.proofs.AnswerLemmas.{update_fits}
use Rattle.og_session.proofs.changes.delta_of.Goals as goal

pub delta_of_update-requires : goal.delta_of_update-requires
delta_of_update-requires c =
    let i = c.in-Update in
    let fits = update_fits (known_of c.args.db.now) i.name i.sets i.cond (subst (IsFit (known_of c.args.db.now)) i.is c.requires.fits) in
    record { table = (fits.0, fits.1, subst (All (IsFitAssign fits.0)) (sym c.as_slice.ensures) fits.2) }

pub returns-in_ok-delta-in-Insert-clause-does : goal.returns-in_ok-delta-in-Insert-clause-does
returns-in_ok-delta-in-Insert-clause-does c =
    let i = c.in-Insert in
    let one = c.in_ok-delta-in-Insert in
    subst (λ s. (of : IsOfNames s) → DoesStatement (s, of) c.args.db.now i.name one.delta) (sym i.is)
    (λ of. subst (λ rows. DoesStatement (t.Insert i.name rows, tt) c.args.db.now i.name one.delta) c.in_ok-into_vec-in-Insert.ensures one.ensures.does)

pub returns-in_ok-delta-in-Delete-clause-does : goal.returns-in_ok-delta-in-Delete-clause-does
returns-in_ok-delta-in-Delete-clause-does c =
    let one = c.in_ok-delta-in-Delete in
    subst (λ s. (of : IsOfNames s) → DoesStatement (s, of) c.args.db.now c.in-Delete.name one.delta) (sym c.in-Delete.is) (λ of. one.ensures.does)

pub returns-in_ok-delta-in-Update-clause-does : goal.returns-in_ok-delta-in-Update-clause-does
returns-in_ok-delta-in-Update-clause-does c =
    let i = c.in-Update in
    let one = c.in_ok-delta-in-Update in
    subst (λ s. (of : IsOfNames s) → DoesStatement (s, of) c.args.db.now i.name one.delta) (sym i.is)
    (λ of. subst (λ sets. DoesStatement (t.Update i.name sets i.cond, tt) c.args.db.now i.name one.delta) c.as_slice.ensures one.ensures.does)
