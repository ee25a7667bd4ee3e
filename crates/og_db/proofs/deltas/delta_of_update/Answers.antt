use Rattle.std.proofs.Common.{ap}
use Rattle.og_query.specs.Fits.{columns_of}
use Rattle.og_db.proofs.DeltaLemmas.{taken_is_delta, takes_with, update_does}
use Rattle.og_db.proofs.deltas.delta_of_update.Goals as goal

pub returns-clause-delta : goal.returns-clause-delta
returns-clause-delta c =
    let t = c.requires.table in
    let taken = c.in_ok-taken.ensures in
    record {
      columns = t.0;
      table = t.1;
      left = taken.left t.0 t.1;
      gone = taken.gone t.0 t.1;
      added = c.in_ok-added.ensures.kinds t.0 t.2 (taken.gone t.0 t.1);
      rows = λ rel is. taken_is_delta c.args.cond.now rel _ (takes_with c.args.cond.now rel c.in_ok-taken.taken c.in_ok-added.added (taken.takes rel is));
    }

pub returns-clause-does : goal.returns-clause-does
returns-clause-does c =
    let h = c.rows_fit.ensures.held c.args.name.now c.requires.table.0 (ap columns_of c.requires.table.1) in
    update_does c.args.db.now c.args.name.now c.names_differ.ensures h.0 h.1 _ c.args.cond.now
    (takes_with c.args.cond.now h.0 c.in_ok-taken.taken c.in_ok-added.added (c.in_ok-taken.ensures.takes h.0 h.1)) c.args.sets.now c.in_ok-added.ensures.law c.in_ok-added.ensures.size
