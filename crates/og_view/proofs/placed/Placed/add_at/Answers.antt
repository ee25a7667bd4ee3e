use Rattle.std.proofs.Common.{[], ◌≡◌, ◌≤◌, ◌++◌, ℕ, ℤ, Bool, true, false, not, length, slice_index_or, take, ap, refl, subst, sym, ◌∙◌, true≢false, arith}
use Rattle.std.specs.List.{All}
use Rattle.std.specs.Str.{bytes_eq}
use Rattle.std.proofs.lemmas.Option.{get_or_from_slice_get, slice_get-get_or}
use Rattle.std.proofs.lemmas.Result.{on_ok_weaker}
use Rattle.og_base.specs.Set.{set_of}
use Rattle.og_value.specs.Order.{row_order}
use Rattle.og_value.specs.Values.{row_at}
use Rattle.og_rel.proofs.PresentLemmas.{relation_at-append}
use Rattle.og_query.specs.Fits.{IsFitQuery}
use Rattle.og_query.specs.Queries.{ordinary_query}
use Rattle.og_query.proofs.QueryLemmas.{rows_ordered}
use Rattle.og_exec.specs.Tables.{rows_at, rows_on, rows_or_none}
use Rattle.og_view.specs.Tables.{AreHeld}
use Rattle.og_view.specs.Parts.{AreParts, beside_at, part_rels, width_of}
use Rattle.og_view.specs.Placed.{more_lists, place_schemas, placed_query}
use Rattle.og_view.specs.Rows.{rows_over}
use Rattle.og_reduce.specs.Sieves.{passes, tests_from}
use Rattle.og_view.proofs.MoreLemmas.{no_rows, no_rows_at_place, no_rows_of_none, nothing_added, places_there, rows_at_place}
use Rattle.og_view.proofs.PartLemmas.{each_on_day, parts_held, rows_beside, rows_of_parts, there_widths, whole_rows, widths}
use Rattle.og_view.proofs.NarrowedLemmas.{HaveWidths}
use Rattle.og_view.proofs.PlacedLemmas.{beside_here, placed_fits}
use Rattle.og_view.proofs.placed.Placed.add_at.Goals.{then-len-eq0-via-then-len-eq0, then-len-eq0-via-else-len-eq0+then-ne}
use Rattle.og_view.proofs.placed.Placed.add_at.Goals as goal

-- what is not false
is_true : (b : Bool) → false ≡ not b → b ≡ true
is_true true e = refl
is_true false e = absurd (true≢false (sym e))

-- and what is not true
is_false : (b : Bool) → true ≡ not b → b ≡ false
is_false true e = absurd (true≢false e)
is_false false e = refl

-- a number that is one that is no more than another
no_more : {a b m n : ℕ} → a ≡ b → b ≤ m → m ≡ n → a ≤ n
no_more same most is = omega (arith, same, most, is)

pub returns-then-len-eq0 : goal.returns-then-len-eq0
returns-then-len-eq0 g c d day =
    let change = c.args.change.now in
    let named = g.T.Tables.named change.over.now in
    let core = c.args.self.now in
    let tables = c.as_slice-tables.ensures ∙ ap (λ core. core.tables) c.self.view_is in
    nothing_added c.args.more.now d (rows_over d core (slice_index_or (more_lists d named change.name.now change.new.now core) c.args.place []))
    (elim c.then-len-eq0.branch [
      | then-len-eq0-via-then-len-eq0 w ↦
          no_rows_of_none d named change.name.now change.new.now core c.args.place (record { name = []; schema = [] }) c.requires.within (no_rows change.new.now (omega (arith, c.len.ensures, w.if-len-eq0.true)))
      | then-len-eq0-via-else-len-eq0+then-ne w ↦
          no_rows_at_place d named change.name.now change.new.now core c.args.place w.index-tables-place.result c.requires.within
          (ap (λ ts. bytes_eq change.name.now (slice_index_or ts c.args.place w.index-tables-place.result).name) (sym tables) ∙ is_false _ w.if-ne.ensures)
    ])

pub answered-requires-clause-fits : goal.answered-requires-clause-fits
answered-requires-clause-fits g c κs within =
    let change = c.args.change.now in
    let core = c.args.self.now in
    let named = g.T.Tables.named change.over.now in
    let rels = beside_at named change.new.now c.args.place core.tables in
    let table = c.index-tables-place.result in
    let parts = c.in_ok-parts.parts.items in
    let tables = c.as_slice-tables.ensures ∙ ap (λ core. core.tables) c.self.view_is in
    let here = ap (λ ts. bytes_eq change.name.now (slice_index_or ts c.args.place table).name) (sym tables) ∙ is_true _ c.if-ne.ensures in
    let are : AreParts rels c.in_ok-tests.tests [] core.tables parts =
    subst (λ tables. AreParts (beside_at named change.new.now c.args.place tables) c.in_ok-tests.tests [] tables parts) tables c.in_ok-parts.ensures in
    let f = c.requires.fits in (
      place_schemas core.tables,
      subst (IsFitQuery (place_schemas core.tables)) (sym (c.self.invariant ∙ ap placed_query c.self.view_is)) (placed_fits f.0 core f.1),
      subst (λ ps. AreHeld (place_schemas core.tables) (part_rels ps)) (sym c.as_slice-2.ensures.value)
          (parts_held c.in_ok-tests.tests rels core.tables (places_there f.0 named f.2.0 change.name.now f.2.1 f.2.2 change.new.now f.2.3 core.tables f.1.tables c.args.place table here) parts are),
    )

pub returns : goal.returns
returns g c =
    let change = c.args.change.now in
    let core = c.args.self.now in
    let named = g.T.Tables.named change.over.now in
    let name = change.name.now in
    let new = change.new.now in
    let place = c.args.place in
    let rels = beside_at named new place core.tables in
    let table = c.index-tables-place.result in
    let tests = c.in_ok-tests.tests in
    let parts = c.in_ok-parts.parts.items in
    let keys = c.in_ok-keys.keys.items in
    let tables = c.as_slice-tables.ensures ∙ ap (λ core. core.tables) c.self.view_is in
    let here = ap (λ ts. bytes_eq name (slice_index_or ts place table).name) (sym tables) ∙ is_true _ c.if-ne.ensures in
    let are : AreParts rels tests [] core.tables parts = subst (λ tables. AreParts (beside_at named new place tables) tests [] tables parts) tables c.in_ok-parts.ensures in
    let f = c.requires.fits in
    let second = c.index-tables-place-2.result in
    let columns : length (slice_index_or c.as_slice-tables.result.now place second).schema ≡ length (slice_index_or core.tables place table).schema =
    ap (λ t. length t.schema)
    (ap (λ ts. slice_index_or ts place second) tables
    ∙ get_or_from_slice_get core.tables place (slice_index_or core.tables place table) second (slice_get-get_or core.tables place table c.requires.within)) in
    let count : length keys ≤ length (slice_index_or core.tables place table).schema =
    no_more c.in_ok-keys.ensures.width c.told-columns.ensures (c.len-3.ensures ∙ columns) in
    let wide : (d : ℤ) → HaveWidths (widths core.tables) (whole_rows d rels core.tables) = λ d. there_widths c.fitting_rows.ensures.on_a_day d rels core.tables
    (places_there f.0 named f.2.0 name f.2.1 f.2.2 new f.2.3 core.tables f.1.tables place table here) in
    on_ok_weaker c.append.result (λ e d day.
    ap (λ rel. rows_on rel d) e
    ∙ relation_at-append rows_ordered row_at c.args.more.now c.in_ok-rel.rel d
    ∙ ap (λ rows. set_of row_order (rows_on c.args.more.now d ++ rows))
    (c.in_ok-rel.ensures.law d day
    ∙ (λ i. ordinary_query d (rows_at (part_rels (c.as_slice-2.ensures.value i)) d) ((c.self.invariant ∙ ap placed_query c.self.view_is) i))
    ∙ rows_of_parts d core tests rels parts are (wide d)
    ∙ rows_beside d core tests rels parts are (wide d) place c.requires.within keys table count
    (λ row holds passing. c.in_ok-tests.ensures d row holds (ap (λ keys. passes (tests_from (width_of (take place core.tables)) keys) row) c.as_slice.ensures.value ∙ passing))
    (subst (λ o. All (λ row. passes (tests_from 0 keys) row ≡ true) (rows_or_none o d)) (sym (beside_here named new core.tables place table c.requires.within))
    (each_on_day (tests_from 0 keys) new c.in_ok-keys.ensures.each d))
    ∙ rows_at_place d named name new core place table c.requires.within here))
    c.append.ensures.appended
