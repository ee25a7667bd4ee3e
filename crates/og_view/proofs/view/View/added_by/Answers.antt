use Rattle.std.proofs.Common.{◌&&◌, ap, subst, sym, ◌∙◌}
use Rattle.std.specs.List.{All, flat_map, list_all}
use Rattle.std.proofs.lemmas.Result.{IfOk-weaker}
use Rattle.og_base.specs.Set.{set_of}
use Rattle.og_value.specs.Order.{row_order}
use Rattle.og_query.specs.Fits.{IsFitCore, columns_of, table_columns_of, tables_of}
use Rattle.og_exec.specs.Tables.{rows_or_none}
use Rattle.og_db.specs.Deltas.{after_at, rows_after}
use Rattle.og_db.specs.Held.{known_of, rows_of}
use Rattle.og_view.specs.Placed.{cores_of, has_once, more_rows}
use Rattle.og_view.proofs.BaseLemmas.{tables_held}
use Rattle.og_view.proofs.ChangedLemmas.{known_changed, rows_of-another}
use Rattle.og_view.proofs.InsertedLemmas.{cores_fit}
use Rattle.og_view.proofs.OnceLemmas.{all_once, more_rows-once}
use Rattle.og_view.proofs.view.View.added_by.Goals as goal

pub more_of-requires-clause-fits : goal.more_of-requires-clause-fits
more_of-requires-clause-fits g c κs within =
    let tables = c.args.over.now.tables.now in
    let schemas = tables_of (known_of tables) in
    let delta = c.requires.delta in (
      schemas,
      subst (All (IsFitCore schemas)) (sym (c.as_slice.ensures.value ∙ c.self.invariant.0 ∙ ap (λ v. cores_of v.query) c.self.view_is)) (cores_fit schemas c.args.self.now.query c.requires.fits),
      (tables_held (known_of tables) (rows_of tables) c.rows_fit.ensures.held, delta.columns, ap table_columns_of delta.table, delta.added),
    )

pub returns-then-names_once : goal.returns-then-names_once
returns-then-names_once g c =
    let query = c.args.self.now.query in
    let over = c.args.over.now in
    let tables = over.tables.now in
    let name = over.name.now in
    let new = over.delta.now.added in
    let cores = c.as_slice.ensures.value ∙ c.self.invariant.0 ∙ ap (λ v. cores_of v.query) c.self.view_is in
    let once =
    all_once name query
    (sym (c.if-names_once.ensures ∙ ap (λ query. has_once name query.first && list_all (λ rest. has_once name rest.core) query.rest) (c.query.ensures ∙ ap (λ v. v.query) c.self.view_is))) in
    IfOk-weaker c.more_of.result _ _ (λ more law d day.
    law d day
    ∙ ap (λ cores. set_of row_order (flat_map (more_rows d (rows_of tables) name new) cores)) cores
    ∙ ap (set_of row_order)
    (more_rows-once d (rows_of tables) (rows_of (after_at name over.delta.now tables)) name new
    (λ other off. ap (λ o. rows_or_none o d) (sym (rows_of-another tables name (rows_after over.delta.now) other off))) (cores_of query) once)) c.more_of.ensures

pub more_of-requires-2-clause-fits : goal.more_of-requires-2-clause-fits
more_of-requires-2-clause-fits g c κs within =
    let over = c.args.over.now in
    let tables = over.tables.now in
    let after = c.new-after.result in
    let schemas = tables_of (known_of tables) in
    let delta = c.requires.delta in (
      schemas,
      subst (All (IsFitCore schemas)) (sym (c.as_slice-2.ensures.value ∙ c.self.invariant.0 ∙ ap (λ v. cores_of v.query) c.self.view_is)) (cores_fit schemas c.args.self.now.query c.requires.fits),
      (
        tables_held (known_of tables) (rows_of after)
            (λ other columns known. c.rows_fit-2.ensures.held other columns (ap columns_of (known_changed tables over.name.now (λ _. c.in_ok-rel.rel) after c.new-after.ensures other) ∙ known)),
        delta.columns,
        ap table_columns_of delta.table,
        delta.added,
      ),
    )
