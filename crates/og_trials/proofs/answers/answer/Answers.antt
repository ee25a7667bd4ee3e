use Rattle.std.proofs.Common.{◌≡◌, Some, subst, sym}
use Rattle.std.proofs.lemmas.List.Elements.{All-weaker}
use Rattle.og_query.specs.Fits.{schemas_of}
use Rattle.og_plan.specs.Premises.{query_tables}
use Rattle.og_exec.specs.Tables.{IsThere, AreThere}
use Rattle.og_db.specs.Held.{known_of, rows_of}
use Rattle.og_trials.proofs.answers.answer.Goals as goal

pub plan_of-requires-clause-range : goal.plan_of-requires-clause-range
plan_of-requires-clause-range g c = c.fitting_queries.ensures.range (schemas_of (known_of c.args.db.now)) c.args.query.now c.requires.fits

pub exec-rel-requires-clause-tables : goal.exec-rel-requires-clause-tables
exec-rel-requires-clause-tables g c κs within =
    let db = c.args.db.now in
    subst (AreThere (rows_of db)) (sym c.in_ok-plan.ensures.scans)
    (All-weaker (λ table. schemas_of (known_of db) table.0 ≡ Some table.1) (IsThere (rows_of db)) (λ table is. c.rows_fit.ensures.held table.0 table.1 is) (query_tables c.args.query.now)
    (c.fitting_queries.ensures.named (schemas_of (known_of db)) c.args.query.now c.requires.fits))
