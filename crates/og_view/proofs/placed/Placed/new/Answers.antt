use Rattle.std.proofs.Common.{subst, sym}
use Rattle.og_query.specs.Fits.{IsFitQuery}
use Rattle.og_view.specs.Placed.{place_schemas}
use Rattle.og_view.proofs.PlacedLemmas.{placed_fits}
use Rattle.og_view.proofs.placed.Placed.new.Goals as goal

pub new-requires : goal.new-requires
new-requires c =
    let core = c.args.core.now in
    record { fits = (place_schemas core.tables, subst (IsFitQuery (place_schemas core.tables)) (sym c.in_ok-query.ensures) (placed_fits c.requires.fits.0 core c.requires.fits.1)) }
