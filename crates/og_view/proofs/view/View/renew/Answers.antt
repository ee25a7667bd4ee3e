use Rattle.std.proofs.Common.{ap, subst, sym, ◌∙◌}
use Rattle.og_query.specs.Fits.{IsFitQuery, tables_of}
use Rattle.og_db.specs.Deltas.{after_at}
use Rattle.og_db.specs.Held.{known_of, rows_of}
use Rattle.og_view.specs.Views.{IsAnswerOver, IsLiveQuery}
use Rattle.og_view.proofs.BaseLemmas.{tables_held}
use Rattle.og_view.proofs.ChangedLemmas.{fits_changed}
use Rattle.og_view.proofs.view.View.renew.Goals as goal

pub answered-requires-clause-fits : goal.answered-requires-clause-fits
answered-requires-clause-fits g c κs within =
    let over = c.args.over.now in
    let after = c.new-after.result in (
      tables_of (known_of after),
      subst (IsFitQuery (tables_of (known_of after))) (sym (ap (λ v. v.query) c.self.view_is))
          (fits_changed over.tables.now over.name.now (λ _. c.in_ok-rel.rel) after c.new-after.ensures c.args.self.now.query c.requires.fits),
      tables_held (known_of after) (rows_of after) c.rows_fit.ensures.held,
    )

pub returns-clause-next : goal.returns-clause-next
returns-clause-next g c =
    let over = c.args.over.now in
    let after = c.new-after.result in
    let query = c.args.self.now.query in
    let asked = ap (λ v. v.query) c.self.view_is in
    subst (IsAnswerOver (after_at over.name.now over.delta.now over.tables.now) query) (sym c.new.ensures) (subst (λ tables. IsAnswerOver tables query c.in_ok-result.result) (c.new-after.ensures ∙ c.in_ok-rel.ensures.put) (subst (λ q. IsAnswerOver after q c.in_ok-result.result) asked (record {
      live = subst IsLiveQuery (sym asked) c.requires.live;
      fits = subst (IsFitQuery (tables_of (known_of after))) (sym asked) (fits_changed over.tables.now over.name.now (λ _. c.in_ok-rel.rel) after c.new-after.ensures query c.requires.fits);
      law = c.in_ok-result.ensures.law;
      size = c.in_ok-result.ensures.size;
      kinds = c.in_ok-result.ensures.kinds;
    })))
