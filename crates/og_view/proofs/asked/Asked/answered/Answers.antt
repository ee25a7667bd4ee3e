use Rattle.std.proofs.Common.{◌≡◌, ◌≤◌, ℤ, Some, length, ◌∙◌, ap, subst, sym}
use Rattle.std.specs.List.{All}
use Rattle.std.proofs.lemmas.List.Elements.{All-weaker}
use Rattle.og_base.specs.Calendar.{IsRefDay}
use Rattle.og_value.specs.Values.{row_at}
use Rattle.og_rel.specs.Relations.{relation_at}
use Rattle.og_plan.specs.Meaning.{plan_rows}
use Rattle.og_plan.specs.Premises.{query_tables}
use Rattle.og_plan.specs.Shapes.{scans_of}
use Rattle.og_plan.specs.Sizes.{plan_size}
use Rattle.og_exec.specs.Tables.{IsThere, AreThere, rows_at, sizes_of}
use Rattle.og_db.specs.Fits.{IsFitFixed}
use Rattle.og_view.specs.Plans.{IsPlanOf}
use Rattle.og_view.proofs.AnswerLemmas.{answer_fits, tables_fit}
use Rattle.og_view.proofs.asked.Asked.answered.Goals as goal

pub exec-requires-clause-tables : goal.exec-requires-clause-tables
exec-requires-clause-tables g c κs within =
    let schemas = c.requires.fits.0 in
    let named = g.T.Tables.named c.args.tables.now in
    let query = c.args.self.now in
    let plan = subst (λ q. IsPlanOf q c.self.inside.plan) c.self.view_is c.self.invariant in
    subst (AreThere named) (sym (ap scans_of c.get.ensures ∙ plan.scans))
    (All-weaker (λ table. schemas table.0 ≡ Some table.1) (IsThere named) (λ table is. c.requires.fits.2 table.0 table.1 is) (query_tables query)
    (c.fitting_queries.ensures.named schemas query c.requires.fits.1))

pub returns-clause-law : goal.returns-clause-law
returns-clause-law g c d day =
    let named = g.T.Tables.named c.args.tables.now in
    let query = c.args.self.now in
    let plan = subst (λ q. IsPlanOf q c.self.inside.plan) c.self.view_is c.self.invariant in
    subst (λ cmp. (d : ℤ) → IsRefDay d → relation_at cmp row_at c.in_ok-rel.rel d ≡ plan_rows d (rows_at named d) c.get.result.now) (λ i x y. c.order_of_rows.ensures.order x y i) c.in_ok-rel.ensures.law d day
    ∙ ap (plan_rows d (rows_at named d)) c.get.ensures
    ∙ plan.meaning d (rows_at named d) (tables_fit c.requires.fits.0 named c.requires.fits.2 c.fitting_rows.ensures.on_a_day d query c.requires.fits.1)

pub returns-clause-kinds : goal.returns-clause-kinds
returns-clause-kinds g c =
    let schemas = c.requires.fits.0 in
    let named = g.T.Tables.named c.args.tables.now in
    let query = c.args.self.now in
    c.fitting_rows.ensures.on_all_days query.first.schema c.in_ok-rel.rel c.some_days.ensures
    (λ d day. subst (All (IsFitFixed query.first.schema)) (sym (returns-clause-law g c d day))
    (answer_fits d (rows_at named d) schemas query c.requires.fits.1 (tables_fit schemas named c.requires.fits.2 c.fitting_rows.ensures.on_a_day d query c.requires.fits.1)))

pub returns-clause-size : goal.returns-clause-size
returns-clause-size g c =
    let sizes = sizes_of (g.T.Tables.named c.args.tables.now) in
    let plan = subst (λ q. IsPlanOf q c.self.inside.plan) c.self.view_is c.self.invariant in
    subst (λ most. length c.in_ok-rel.rel ≤ most) (ap (plan_size sizes) c.get.ensures ∙ plan.size sizes) c.in_ok-rel.ensures.size
