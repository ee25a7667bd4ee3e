use Rattle.std.proofs.Common.{◌++◌, [], filter, ap, subst, sym, ◌∙◌}
use Rattle.std.proofs.lemmas.Result.{on_ok_weaker}
use Rattle.og_base.specs.Set.{set_of}
use Rattle.og_value.specs.Order.{row_order}
use Rattle.og_value.specs.Values.{row_at}
use Rattle.og_rel.proofs.PresentLemmas.{relation_at-append}
use Rattle.og_query.specs.Fits.{IsFitQuery}
use Rattle.og_query.specs.Conditions.{truth}
use Rattle.og_query.specs.Queries.{image, ordinary_query}
use Rattle.og_query.proofs.QueryLemmas.{rows_ordered}
use Rattle.og_exec.specs.Tables.{rows_at, rows_on}
use Rattle.og_db.specs.Deltas.{rest_at}
use Rattle.og_db.specs.Held.{rows_of}
use Rattle.og_view.specs.Tables.{AreHeld}
use Rattle.og_view.specs.Parts.{AreParts, own_at, part_rels}
use Rattle.og_view.specs.Placed.{place_schemas, placed_query}
use Rattle.og_reduce.specs.Sieves.{passes}
use Rattle.og_view.proofs.AgainLemmas.{own_there, passing_parts}
use Rattle.og_view.proofs.PartLemmas.{parts_held, there_widths}
use Rattle.og_view.proofs.PlacedLemmas.{placed_fits}
use Rattle.og_view.proofs.SieveLemmas.{rows_on-sifted}
use Rattle.og_view.proofs.rederived.add_rederived.Goals as goal

pub answered-requires-clause-fits : goal.answered-requires-clause-fits
answered-requires-clause-fits g c κs within =
    let core = c.args.placed.now in
    let over = c.args.over.now in
    let named = rows_of (rest_at over.name.now over.delta.now over.tables.now) in
    let parts = c.in_ok-parts.parts.items in
    let tables = c.as_slice-tables.ensures ∙ ap (λ core. core.tables) c.placed.view_is in
    let are : AreParts (own_at named core.tables) c.in_ok-tests-2.tests [] core.tables parts =
    subst (λ tables. AreParts (own_at named tables) c.in_ok-tests-2.tests [] tables parts) tables c.in_ok-parts.ensures in
    let f = c.requires.fits in (
      place_schemas core.tables,
      subst (IsFitQuery (place_schemas core.tables)) (sym (c.placed.invariant ∙ ap placed_query c.placed.view_is)) (placed_fits f.0 core f.1),
      subst (λ ps. AreHeld (place_schemas core.tables) (part_rels ps)) (sym c.as_slice-2.ensures.value)
          (parts_held c.in_ok-tests-2.tests (own_at named core.tables) core.tables (own_there f.0 named f.2 core.tables f.1.tables) parts are),
    )

pub returns : goal.returns
returns g c =
    let core = c.args.placed.now in
    let over = c.args.over.now in
    let named = rows_of (rest_at over.name.now over.delta.now over.tables.now) in
    let tests = c.args.sieve.now in
    let inner = c.in_ok-tests-2.tests in
    let parts = c.in_ok-parts.parts.items in
    let tables = c.as_slice-tables.ensures ∙ ap (λ core. core.tables) c.placed.view_is in
    let are : AreParts (own_at named core.tables) inner [] core.tables parts = subst (λ tables. AreParts (own_at named tables) inner [] tables parts) tables c.in_ok-parts.ensures in
    let f = c.requires.fits in
    on_ok_weaker c.append.result (λ e d day.
    ap (λ rel. rows_on rel d) e
    ∙ relation_at-append rows_ordered row_at c.args.again.now c.in_ok-passing.field-0 d
    ∙ ap (λ rows. set_of row_order (rows_on c.args.again.now d ++ rows))
    (ap (λ rel. rows_on rel d) c.in_ok-passing.ensures
    ∙ rows_on-sifted tests c.in_ok-rel.rel d
    ∙ ap (filter (passes tests))
    (c.in_ok-rel.ensures.law d day
    ∙ (λ i. ordinary_query d (rows_at (part_rels (c.as_slice-2.ensures.value i)) d) ((c.placed.invariant ∙ ap placed_query c.placed.view_is) i)))
    ∙ passing_parts d core tests inner (λ row holds passing.
    c.in_ok-tests-2.ensures d row (ap (λ core. truth d row core.cond) c.placed.view_is ∙ holds)
    (c.in_ok-tests.ensures d row (ap (λ items. passes tests (image d items row)) (c.as_slice.ensures ∙ ap (λ core. core.items) c.placed.view_is) ∙ passing))) named parts are (there_widths c.fitting_rows.ensures.on_a_day d (own_at named core.tables) core.tables (own_there f.0 named f.2 core.tables f.1.tables))))
    c.append.ensures.appended
