use Rattle.std.proofs.Common.{ap, subst, sym, ◌∙◌}
use Rattle.std.specs.List.{All}
use Rattle.og_query.specs.Fits.{IsFitCore, table_columns_of, tables_of}
use Rattle.og_db.specs.Held.{known_of, rows_of}
use Rattle.og_view.specs.Placed.{cores_of}
use Rattle.og_view.proofs.BaseLemmas.{tables_held}
use Rattle.og_view.proofs.InsertedLemmas.{cores_fit}
use Rattle.og_view.proofs.view.View.lost_by.Goals as goal

pub more_of-requires-clause-fits : goal.more_of-requires-clause-fits
more_of-requires-clause-fits g c κs within =
    let tables = c.args.over.now.tables.now in
    let schemas = tables_of (known_of tables) in
    let delta = c.requires.delta in (
      schemas,
      subst (All (IsFitCore schemas)) (sym (c.as_slice.ensures.value ∙ c.self.invariant.0 ∙ ap (λ v. cores_of v.query) c.self.view_is)) (cores_fit schemas c.args.self.now.query c.requires.fits),
      (tables_held (known_of tables) (rows_of tables) c.rows_fit.ensures.held, delta.columns, ap table_columns_of delta.table, delta.gone),
    )
