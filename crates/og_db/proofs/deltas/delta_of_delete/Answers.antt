use Rattle.std.proofs.Common.{ap, subst, sym}
use Rattle.std.proofs.lemmas.List.Elements.{All-nil}
use Rattle.og_query.specs.Fits.{IsFitRow, columns_of}
use Rattle.og_db.specs.Database.{HaveKinds}
use Rattle.og_db.proofs.DeltaLemmas.{delete_does, taken_is_delta}
use Rattle.og_db.proofs.deltas.delta_of_delete.Goals as goal

pub returns-clause-delta : goal.returns-clause-delta
returns-clause-delta c =
    let t = c.requires.table in
    let taken = c.in_ok-taken.ensures in
    record {
      columns = t.0;
      table = t.1;
      left = taken.left t.0 t.1;
      gone = taken.gone t.0 t.1;
      added = subst (HaveKinds t.0) (sym taken.added) (All-nil (λ p. IsFitRow t.0 p.0));
      rows = λ rel is. taken_is_delta c.args.cond.now rel c.in_ok-taken.taken (taken.takes rel is);
    }

pub returns-clause-does : goal.returns-clause-does
returns-clause-does c =
    let h = c.rows_fit.ensures.held c.args.name.now c.requires.table.0 (ap columns_of c.requires.table.1) in
    delete_does c.args.db.now c.args.name.now c.names_differ.ensures h.0 h.1 c.in_ok-taken.taken c.args.cond.now (c.in_ok-taken.ensures.takes h.0 h.1) c.in_ok-taken.ensures.added
