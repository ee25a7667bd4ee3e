use Rattle.std.proofs.Common.{◌≡◌, ◌++◌, ap, subst, sym, ◌∙◌}
use Rattle.og_rel.specs.Places.{others_at}
use Rattle.og_db.specs.Database.{HaveKinds}
use Rattle.og_db.specs.Deltas.{rows_after}
use Rattle.og_db.specs.Held.{put_at}
use Rattle.og_db.proofs.WorldLemmas.{put_at-made}
use Rattle.og_view.proofs.DeltaLemmas.{after_fit, all_passing, own}
use Rattle.og_view.proofs.table_delta.TableDelta.whole.Goals as goal

-- the rows are those that come of the table
whole_is : (c : goal.In_ok-append-2) → c.append-2.new.self ≡ rows_after c.args.self.now.delta.now c.table-own.result.now
whole_is c =
    let delta = c.args.self.now.delta.now in
    c.in_ok-append-2.ensures.appended
    ∙ (λ i. c.in_ok-append.ensures.appended i ++ c.in_ok-copy-2.ensures i)
    ∙ (λ i. (c.in_ok-rel.ensures i ++ c.in_ok-copy.ensures i) ++ delta.added)
    ∙ (λ i. (all_passing (others_at (c.as_slice.ensures.value i) c.table-own.result.now) i ++ delta.left) ++ delta.added)

pub returns-clause-put : goal.returns-clause-put
returns-clause-put c =
    let over = c.args.self.now in
    let rel = own over.tables.now over.name.now over.delta.now c.requires in
    ap (λ rel. put_at over.name.now rel over.tables.now) (whole_is c ∙ ap (rows_after over.delta.now) (c.table-own.ensures.rows rel.0 rel.1))
    ∙ put_at-made over.name.now rel.0 (rows_after over.delta.now) over.tables.now rel.1 c.names_differ.ensures

pub returns-clause-fits : goal.returns-clause-fits
returns-clause-fits c =
    let over = c.args.self.now in
    let columns = c.requires.columns in (
      columns,
      c.requires.table,
      subst (HaveKinds columns) (sym (whole_is c)) (after_fit over.tables.now over.name.now over.delta.now c.requires c.table-own.result.now (c.table-own.ensures.fits columns c.requires.table)),
    )
