use Rattle.std.proofs.Common.{◌≡◌, ◌≤◌, ℤ, Some, length, ◌∙◌, subst, sym}
use Rattle.std.specs.List.{All}
use Rattle.std.proofs.lemmas.List.Elements.{All-weaker}
use Rattle.og_base.specs.Calendar.{IsRefDay}
use Rattle.og_value.specs.Values.{row_at}
use Rattle.og_rel.specs.Relations.{relation_at}
use Rattle.og_query.specs.Fits.{schemas_of}
use Rattle.og_plan.specs.Meaning.{plan_rows}
use Rattle.og_plan.specs.Premises.{query_tables}
use Rattle.og_exec.specs.Tables.{IsThere, AreThere, rows_at, sizes_of}
use Rattle.og_db.specs.Fits.{IsFitFixed}
use Rattle.og_view.proofs.AnswerLemmas.{answer_fits, tables_fit}
use Rattle.og_session.proofs.answer.answer.Goals as goal

pub plan_of-requires-clause-range : goal.plan_of-requires-clause-range
plan_of-requires-clause-range g c = c.fitting_queries.ensures.range (schemas_of (g.T.Catalog.known c.args.tables.now)) c.args.query.now c.requires.fits

pub exec-made-requires-clause-tables : goal.exec-made-requires-clause-tables
exec-made-requires-clause-tables g c κs within =
    let known = g.T.Catalog.known c.args.tables.now in
    let named = g.T.Tables.named c.args.tables.now in
    subst (AreThere named) (sym c.in_ok-plan.ensures.scans)
    (All-weaker (λ table. schemas_of known table.0 ≡ Some table.1) (IsThere named) (λ table is. c.requires.held table.0 table.1 is) (query_tables c.args.query.now)
    (c.fitting_queries.ensures.named (schemas_of known) c.args.query.now c.requires.fits))

pub returns-clause-law : goal.returns-clause-law
returns-clause-law g c d day =
    let known = g.T.Catalog.known c.args.tables.now in
    let named = g.T.Tables.named c.args.tables.now in
    let plan = c.in_ok-plan.plan in
    subst (λ cmp. (d : ℤ) → IsRefDay d → relation_at cmp row_at c.in_ok-rel.rel d ≡ plan_rows d (rows_at named d) plan) (λ i x y. c.order_of_rows.ensures.order x y i) c.in_ok-rel.ensures.law d day
    ∙ c.in_ok-plan.ensures.meaning d (rows_at named d) (tables_fit (schemas_of known) named c.requires.held c.fitting_rows.ensures.on_a_day d c.args.query.now c.requires.fits)

pub returns-clause-kinds : goal.returns-clause-kinds
returns-clause-kinds g c =
    let known = g.T.Catalog.known c.args.tables.now in
    let named = g.T.Tables.named c.args.tables.now in
    let query = c.args.query.now in
    c.fitting_rows.ensures.on_all_days query.first.schema c.in_ok-rel.rel c.some_days.ensures
    (λ d day. subst (All (IsFitFixed query.first.schema)) (sym (returns-clause-law g c d day))
    (answer_fits d (rows_at named d) (schemas_of known) query c.requires.fits (tables_fit (schemas_of known) named c.requires.held c.fitting_rows.ensures.on_a_day d query c.requires.fits)))

pub returns-clause-size : goal.returns-clause-size
returns-clause-size g c =
    let named = g.T.Tables.named c.args.tables.now in
    subst (λ most. length c.in_ok-rel.rel ≤ most) (c.in_ok-plan.ensures.size (sizes_of named)) c.in_ok-rel.ensures.size
