use Rattle.std.proofs.Common.{ap, refl, subst, sym, ◌∙◌}
use Rattle.std.specs.List.{All, flat_map}
use Rattle.std.proofs.lemmas.Result.{IfOk-weaker}
use Rattle.og_base.specs.Set.{set_of}
use Rattle.og_value.specs.Order.{row_order}
use Rattle.og_query.specs.Fits.{IsFitCore, tables_of}
use Rattle.og_db.specs.Deltas.{rest_at, rest_of}
use Rattle.og_db.specs.Held.{known_of, rows_of}
use Rattle.og_view.specs.Again.{passing_rows}
use Rattle.og_view.specs.Placed.{cores_of}
use Rattle.og_view.proofs.BaseLemmas.{tables_held}
use Rattle.og_view.proofs.ChangedLemmas.{fits_changed}
use Rattle.og_view.proofs.InsertedLemmas.{cores_fit}
use Rattle.og_view.proofs.RederivedLemmas.{passing_query}
use Rattle.og_view.proofs.view.View.rederived.Goals as goal

pub rederived-requires-clause-fits : goal.rederived-requires-clause-fits
rederived-requires-clause-fits g c κs within =
    let over = c.args.over.now in
    let tables = over.tables.now in
    let rest = rest_at over.name.now over.delta.now tables in
    let schemas = tables_of (known_of rest) in
    let query = c.args.self.now.query in (
      schemas,
      subst (All (IsFitCore schemas)) (sym (c.as_slice.ensures.value ∙ c.self.invariant.0 ∙ ap (λ v. cores_of v.query) c.self.view_is))
          (cores_fit schemas query (fits_changed tables over.name.now (rest_of over.delta.now) rest refl query c.requires.fits)),
      tables_held (known_of rest) (rows_of rest) c.rows_fit.ensures.rest,
    )

pub returns : goal.returns
returns g c =
    let over = c.args.over.now in
    let rest = rest_at over.name.now over.delta.now over.tables.now in
    let sieve = c.args.sieve.now in
    let cores = c.as_slice.ensures.value ∙ c.self.invariant.0 ∙ ap (λ v. cores_of v.query) c.self.view_is in
    IfOk-weaker c.rederived.result _ _
    (λ again law d day.
    law d day
    ∙ ap (λ cores. set_of row_order (flat_map (passing_rows d (rows_of rest) sieve) cores)) cores
    ∙ passing_query d (rows_of rest) sieve c.args.self.now.query c.requires.live)
    c.rederived.ensures
