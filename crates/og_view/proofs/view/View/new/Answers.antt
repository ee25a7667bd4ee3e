use Rattle.std.proofs.Common.{subst, sym}
use Rattle.og_query.specs.Fits.{IsFitQuery, tables_of}
use Rattle.og_db.specs.Held.{known_of, rows_of}
use Rattle.og_view.proofs.BaseLemmas.{tables_held}
use Rattle.og_view.proofs.view.View.new.Goals as goal

pub answered-requires-clause-fits : goal.answered-requires-clause-fits
answered-requires-clause-fits g c κs within =
    let tables = c.args.tables.now in
    let schemas = tables_of (known_of tables) in
    (schemas, subst (IsFitQuery schemas) (sym c.in_ok-asked.ensures) c.requires.fits, tables_held (known_of tables) (rows_of tables) c.rows_fit.ensures.held)
