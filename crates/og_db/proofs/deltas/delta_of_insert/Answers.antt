use Rattle.std.proofs.Common.{ap, subst, sym}
use Rattle.std.proofs.lemmas.List.Elements.{All-nil}
use Rattle.og_query.specs.Fits.{IsFitRow, columns_of}
use Rattle.og_db.specs.Database.{HaveKinds}
use Rattle.og_db.proofs.DeltaLemmas.{insert_does, untouched_is_delta}
use Rattle.og_db.proofs.StatementLemmas.{inserted_fit}
use Rattle.og_db.proofs.deltas.delta_of_insert.Goals as goal

pub returns-clause-delta : goal.returns-clause-delta
returns-clause-delta c =
    let t = c.requires.table in
    let none = All-nil (λ p. IsFitRow t.0 p.0) in
    record {
      columns = t.0;
      table = t.1;
      left = subst (HaveKinds t.0) (sym c.new-left.ensures) none;
      gone = subst (HaveKinds t.0) (sym c.new-gone.ensures) none;
      added = subst (HaveKinds t.0) (sym c.in_ok-added.ensures) (inserted_fit t.0 c.args.rows.items t.2);
      rows = λ rel is. untouched_is_delta rel _ c.new-at.ensures.items c.new-left.ensures c.new-gone.ensures;
    }

pub returns-clause-does : goal.returns-clause-does
returns-clause-does c =
    let h = c.rows_fit.ensures.held c.args.name.now c.requires.table.0 (ap columns_of c.requires.table.1) in
    insert_does c.args.db.now c.args.name.now c.names_differ.ensures h.0 h.1 _ c.args.rows.items c.new-at.ensures.items c.new-left.ensures c.in_ok-added.ensures
