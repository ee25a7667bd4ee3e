-- The plan of a query means the query.
use Rattle.std.proofs.Common.{◌≡◌, ◌++◌, ◌+◌, ◌<◌, ◌≤◌, ◌&&◌, ℤ, Bool, not, List, [], ◌∷◌, length, map, filter, fold, if◌then◌else◌, refl, sym, ap, ap₂, subst, ◌∙◌, arith}
use Rattle.std.specs.List.{AllByRecursion, flat_map, list_all, list_any}
use Rattle.std.proofs.lemmas.List.{length-append, length-map}
use Rattle.std.proofs.lemmas.List.Elements.{recursion_from_All}
use Rattle.std.proofs.lemmas.List.Folds.{list_all-map}
use Rattle.og_base.proofs.SetMembers.{list_any-map, list_any-filter}
use Rattle.og_rel.proofs.AlgebraLemmas.{same_set_by_tests}
use Rattle.og_value.specs.declared.schema.Column.{Column}
use Rattle.og_query.specs.Combinations.{combinations}
use Rattle.og_query.specs.Conditions.{truth}
use Rattle.og_query.specs.Fits.{core_kinds}
use Rattle.og_query.specs.Kinds.{kinds_of, fixed_kind}
use Rattle.og_query.specs.Queries.{Fixed, Named, image, meets, is_kept, core_rows, combined, ordinary_query}
use Rattle.og_query.specs.declared.query.Core.{Core}
use Rattle.og_query.specs.declared.query.From1.{From1}
use Rattle.og_query.specs.declared.query.Query.{Query}
use Rattle.og_query.specs.declared.query.Rest.{Rest}
use Rattle.og_query.specs.declared.query.Semi.{Semi}
use Rattle.og_query.proofs.QueryLemmas.{rows_ordered}
use Rattle.og_plan.specs.declared.plan.Plan.{Plan}
use Rattle.og_plan.specs.declared.plan.Plan.TheVariants.{Combine}
use Rattle.og_plan.specs.declared.plan.PlanSemi.{PlanSemi}
use Rattle.og_plan.specs.Meaning.{meets_semi, node_rows, plan_rows}
use Rattle.og_plan.specs.Parts.{places_of, parts_of}
use Rattle.og_plan.specs.PlanOf.{widths_of, tree_of, semi_plan, sifted, core_plan, plan_of, HaveTables}
use Rattle.og_plan.specs.Premises.{IsInRange, AreInRange, FitRows, HaveFitRows, AllHaveFitRows}
use Rattle.og_plan.proofs.PlanEquations.{fold-Project, fold-Combine, fold-Semis}
use Rattle.og_plan.proofs.MeaningKeys.{and_apart}
use Rattle.og_plan.proofs.MeaningParts.{parts_told, places_of_parts}
use Rattle.og_plan.proofs.MeaningHomes.{columns, all_weaker}
use Rattle.og_plan.proofs.MeaningTrees.{AreWide, any_of_tree}

-- the columns of tables are as many as their kinds
columns_of_kinds : (tables : List From1) → length (flat_map (λ table. kinds_of table.schema) tables) ≡ columns (widths_of tables)
columns_of_kinds [] = refl
columns_of_kinds (table ∷ tables) =
    length-append (kinds_of table.schema) (flat_map (λ table. kinds_of table.schema) tables)
    ∙ ap₂ (λ m n. m + n) (length-map table.schema (λ column. column.kind)) (columns_of_kinds tables)

module _ (d : ℤ) (rows : Named) where
  -- rows that fit columns are as wide
  fit_width : (schema : List Column) (row : Fixed) → map fixed_kind row ≡ kinds_of schema → length row ≡ length schema
  fit_width schema row e = sym (length-map row fixed_kind) ∙ ap length e ∙ length-map schema (λ column. column.kind)

  -- and all rows of tables that fit their columns are
  fit_widths : (tables : List From1) → AllByRecursion (λ table. FitRows table.schema (rows table.name)) tables → AllByRecursion (λ table. AreWide (length table.schema) (rows table.name)) tables
  fit_widths =
      all_weaker (λ table. FitRows table.schema (rows table.name)) (λ table. AreWide (length table.schema) (rows table.name))
      (λ table fit. all_weaker (λ row. map fixed_kind row ≡ kinds_of table.schema) (λ row. length row ≡ length table.schema) (fit_width table.schema) (rows table.name)
      (recursion_from_All (λ row. map fixed_kind row ≡ kinds_of table.schema) (rows table.name) fit))

  -- a row meets the plan of a semi where it meets the semi
  semi_told : (semi : Semi) (row : Fixed) → meets_semi d rows row (semi_plan semi) ≡ meets d rows row semi
  semi_told semi row =
      ap (λ b. if semi.positive then b else not b) (λ i. list_any (λ other. parts_told d (row ++ other) semi.cond i) (rows semi.table.name))

  -- and so all of them
  semis_told : (semis : List Semi) (row : Fixed) → list_all (meets_semi d rows row) (map semi_plan semis) ≡ list_all (meets d rows row) semis
  semis_told semis row = list_all-map (meets_semi d rows row) semi_plan semis ∙ (λ i. list_all (λ semi. semi_told semi row i) semis)

  -- of some row of a tree under semis: of some row of the tree that meets them all
  any_sifted : (t : Fixed → Bool) (tree : Plan) (semis : List PlanSemi)
      → list_any t (plan_rows d rows (sifted tree semis)) ≡ list_any (λ row. list_all (meets_semi d rows row) semis && t row) (plan_rows d rows tree)
  any_sifted t tree [] = refl
  any_sifted t tree (semi ∷ semis) =
      ap (list_any t) (fold-Semis (node_rows d rows) tree (semi ∷ semis))
      ∙ list_any-filter t (λ row. list_all (meets_semi d rows row) (semi ∷ semis)) (plan_rows d rows tree)

  -- of some row of the tree of a core: of some combination of its tables' rows of which its condition holds
  any_of_core : (t : Fixed → Bool) (core : Core) → 1 ≤ length core.tables → IsInRange core → HaveFitRows rows core
      → list_any t (plan_rows d rows (tree_of (core_kinds core) (widths_of core.tables) (parts_of core.cond) core.tables))
      ≡ list_any (λ row. truth d row core.cond && t row) (combinations (map (λ table. rows table.name) core.tables))
  any_of_core t core some range fit =
      at core.tables some
      (subst (λ n. AllByRecursion (λ place. place < n) (places_of core.cond)) (columns_of_kinds core.tables)
      (recursion_from_All (λ place. place < length (core_kinds core)) (places_of core.cond) range))
      (fit_widths core.tables (recursion_from_All (λ table. FitRows table.schema (rows table.name)) core.tables fit))
    where
      at : (tables : List From1) → 1 ≤ length tables → AllByRecursion (λ place. place < columns (widths_of tables)) (places_of core.cond)
          → AllByRecursion (λ table. AreWide (length table.schema) (rows table.name)) tables
          → list_any t (plan_rows d rows (tree_of (core_kinds core) (widths_of tables) (parts_of core.cond) tables))
          ≡ list_any (λ row. truth d row core.cond && t row) (combinations (map (λ table. rows table.name) tables))
      at [] some within wide = absurd (omega (arith, some))
      at (table ∷ tables) some within wide =
          any_of_tree d rows (core_kinds core) (parts_of core.cond) table tables (places_of_parts (λ place. place < columns (widths_of (table ∷ tables))) core.cond within) wide t
          ∙ (λ i. list_any (λ row. parts_told d row core.cond i && t row) (combinations (map (λ table. rows table.name) (table ∷ tables))))

  -- the plan of a core means the core
  core_means : (core : Core) → 1 ≤ length core.tables → IsInRange core → HaveFitRows rows core → plan_rows d rows (core_plan core) ≡ core_rows d rows core
  core_means core some range fit =
      let all = combinations (map (λ table. rows table.name) core.tables) in
      let tree = tree_of (core_kinds core) (widths_of core.tables) (parts_of core.cond) core.tables in
      let under = sifted tree (map semi_plan core.semis) in
      fold-Project (node_rows d rows) under core.items
      ∙ same_set_by_tests rows_ordered (map (image d core.items) (plan_rows d rows under)) (map (image d core.items) (filter (is_kept d rows core) all))
      (λ t. list_any-map t (image d core.items) (plan_rows d rows under)
      ∙ any_sifted (λ row. t (image d core.items row)) tree (map semi_plan core.semis)
      ∙ (λ i. list_any (λ row. semis_told core.semis row i && t (image d core.items row)) (plan_rows d rows tree))
      ∙ any_of_core (λ row. list_all (meets d rows row) core.semis && t (image d core.items row)) core some range fit
      ∙ (λ i. list_any (λ row. sym (and_apart (truth d row core.cond) (list_all (meets d rows row) core.semis) (t (image d core.items row))) i) all)
      ∙ sym (list_any-filter (λ row. t (image d core.items row)) (is_kept d rows core) all)
      ∙ sym (list_any-map t (image d core.items) (filter (is_kept d rows core) all)))

  -- further cores, combined with what is so far
  rests_mean : (rests : List Rest) (left : Plan) → AllByRecursion (λ rest. 1 ≤ length rest.core.tables) rests → AllByRecursion (λ rest. IsInRange rest.core) rests
      → AllByRecursion (λ rest. HaveFitRows rows rest.core) rests
      → plan_rows d rows (fold (λ left rest. Combine rest.op left (core_plan rest.core)) left rests)
      ≡ fold (λ answer rest. combined rest.op answer (core_rows d rows rest.core)) (plan_rows d rows left) rests
  rests_mean [] left some range fit = refl
  rests_mean (rest ∷ rests) left some range fit =
      rests_mean rests (Combine rest.op left (core_plan rest.core)) some.1 range.1 fit.1
      ∙ ap (λ answer. fold (λ answer rest. combined rest.op answer (core_rows d rows rest.core)) answer rests)
      (fold-Combine (node_rows d rows) rest.op left (core_plan rest.core) ∙ ap (combined rest.op (plan_rows d rows left)) (core_means rest.core some.0 range.0 fit.0))

-- the plan of a query means the query
pub plan_means : (d : ℤ) (rows : Named) (query : Query) → HaveTables query → AreInRange query → AllHaveFitRows rows query → plan_rows d rows (plan_of query) ≡ ordinary_query d rows query
plan_means d rows query some range fit =
    rests_mean d rows query.rest (core_plan query.first)
    (recursion_from_All (λ rest. 1 ≤ length rest.core.tables) query.rest some.1)
    (recursion_from_All (λ rest. IsInRange rest.core) query.rest range.1)
    (recursion_from_All (λ rest. HaveFitRows rows rest.core) query.rest fit.1)
    ∙ ap (λ answer. fold (λ answer rest. combined rest.op answer (core_rows d rows rest.core)) answer query.rest) (core_means d rows query.first some.0 range.0 fit.0)
