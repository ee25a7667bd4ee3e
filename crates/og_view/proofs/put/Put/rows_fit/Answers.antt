use Rattle.std.proofs.Common.{subst}
use Rattle.og_query.specs.Fits.{schemas_of}
use Rattle.og_db.specs.Held.{known_of, rows_of}
use Rattle.og_view.specs.Tables.{AreHeld}
use Rattle.og_view.proofs.ChangedLemmas.{changed_held}
use Rattle.og_view.proofs.put.Put.rows_fit.Goals as goal

pub returns : goal.returns
returns c =
    let p = c.self.inside in
    let put = c.self.invariant in
    record { held = subst (λ db. AreHeld (schemas_of (known_of db)) (rows_of db)) c.self.view_is (changed_held p.tables.now p.name.now (λ _. p.rel.now) put.0 put.1 (λ _ _. put.2) c.rows_fit.ensures.held) }
