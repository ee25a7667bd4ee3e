-- A core over tables of which one has more rows: its rows are those over the tables before, and those that the new rows have at each place.
use Rattle.std.proofs.Common.{◌≡◌, ◌++◌, ◌||◌, ◌&&◌, ℕ, ℤ, Bool, true, false, List, [], ◌∷◌, map, filter, refl, sym, ap, ap₂, ◌∙◌}
use Rattle.std.specs.List.{flat_map, list_all, list_any}
use Rattle.std.proofs.lemmas.List.Folds.{list_any-append}
use Rattle.og_base.specs.Set.{set_of}
use Rattle.og_base.proofs.SetMembers.{list_any-filter, list_any-map, list_any-set_of}
use Rattle.og_value.specs.Order.{row_order}
use Rattle.og_rel.proofs.AlgebraLemmas.{any_across, any_of_either, list_any-flat_map, or_false, same_set_by_tests}
use Rattle.og_query.specs.Combinations.{combinations}
use Rattle.og_query.specs.Conditions.{truth}
use Rattle.og_query.specs.Queries.{Fixed, Named, core_rows, image, meets}
use Rattle.og_query.specs.declared.query.Core.{Core}
use Rattle.og_query.specs.declared.query.From1.{From1}
use Rattle.og_query.proofs.ProductLemmas.{list_any-combinations}
use Rattle.og_query.proofs.QueryLemmas.{rows_ordered}
use Rattle.og_plan.proofs.MeaningParts.{and_true}
use Rattle.og_db.specs.Deltas.{IsAlike}
use Rattle.og_view.specs.Rows.{rows_over, turns}

module _ (now before new : From1 → List Fixed) (grows : (table : From1) → IsAlike (now table) (before table ++ new table)) where
  -- what comes of the old rows of a table, or of its new ones, with the rows of the others as they were, or with a turn among them
  whole : (g h j k : Bool) → ((g || h) || (j || k)) ≡ (g || ((j || k) || (h || k)))
  whole true h j k = refl
  whole false true true k = refl
  whole false true false true = refl
  whole false true false false = refl
  whole false false true k = refl
  whole false false false true = refl
  whole false false false false = refl

  -- of some combination of the rows now: of some of those before, or of some with the new rows at one place
  any_grown : (p : Fixed → Bool) (tables : List From1)
      → list_any p (combinations (map now tables)) ≡ (list_any p (combinations (map before tables)) || list_any (λ one. list_any p (combinations one)) (turns (map now tables) (map new tables)))
  any_grown p [] = sym (or_false (list_any p (combinations [])))
  any_grown p (table ∷ tables) =
      list_any-combinations p (now table) (map now tables)
      ∙ grows table all
      ∙ list_any-append all (before table) (new table)
      ∙ ap₂ (λ a b. a || b) (parted (λ q. any_grown q tables) (before table)) (parted (λ q. any_grown q tables) (new table))
      ∙ whole (list_any old (before table)) (list_any turned (before table)) (list_any old (new table)) (list_any turned (new table))
      ∙ sym (ap₂ (λ a b. a || b) (list_any-combinations p (before table) (map before tables))
      (ap₂ (λ a b. a || b) (list_any-combinations p (new table) (map now tables) ∙ parted (λ q. any_grown q tables) (new table))
      (list_any-map (λ one. list_any p (combinations one)) (λ one. now table ∷ one) (turns (map now tables) (map new tables))
      ∙ (λ i. list_any (λ one. list_any-combinations p (now table) one i) (turns (map now tables) (map new tables)))
      ∙ any_across (λ one row. list_any (λ rest. p (row ++ rest)) (combinations one)) (turns (map now tables) (map new tables)) (now table)
      ∙ grows table turned
      ∙ list_any-append turned (before table) (new table))))
    where
      all : Fixed → Bool
      all row = list_any (λ rest. p (row ++ rest)) (combinations (map now tables))

      old : Fixed → Bool
      old row = list_any (λ rest. p (row ++ rest)) (combinations (map before tables))

      turned : Fixed → Bool
      turned row = list_any (λ one. list_any (λ rest. p (row ++ rest)) (combinations one)) (turns (map now tables) (map new tables))

      parted : ((q : Fixed → Bool) → list_any q (combinations (map now tables)) ≡ (list_any q (combinations (map before tables)) || list_any (λ one. list_any q (combinations one)) (turns (map now tables) (map new tables))))
          → (rows : List Fixed) → list_any all rows ≡ (list_any old rows || list_any turned rows)
      parted behind rows = (λ i. list_any (λ row. behind (λ rest. p (row ++ rest)) i) rows) ∙ any_of_either old turned rows

module _ (d : ℤ) (core : Core) where
  -- a core without EXISTS has its rows over the rows of its tables
  pub core_rows-over : (rows : Named) → core.semis ≡ [] → core_rows d rows core ≡ rows_over d core (map (λ table. rows table.name) core.tables)
  core_rows-over rows none =
      let all = combinations (map (λ table. rows table.name) core.tables) in
      ap (λ semis. set_of row_order (map (image d core.items) (filter (λ row. truth d row core.cond && list_all (meets d rows row) semis) all))) none
      ∙ (λ i. set_of row_order (map (image d core.items) (filter (λ row. and_true (truth d row core.cond) i) all)))

  -- a test of some member of the images of those that are kept
  pub any_over : (t : Fixed → Bool) (all : List Fixed)
      → list_any t (map (image d core.items) (filter (λ row. truth d row core.cond) all)) ≡ list_any (λ row. truth d row core.cond && t (image d core.items row)) all
  any_over t all =
      list_any-map t (image d core.items) (filter (λ row. truth d row core.cond) all) ∙ list_any-filter (λ row. t (image d core.items row)) (λ row. truth d row core.cond) all

  -- the rows over tables now are those over the tables before and those over the new rows at each place
  rows_over-grown : (now before new : From1 → List Fixed) → ((table : From1) → IsAlike (now table) (before table ++ new table)) → (tables : List From1)
      → rows_over d core (map now tables) ≡ set_of row_order (rows_over d core (map before tables) ++ flat_map (rows_over d core) (turns (map now tables) (map new tables)))
  rows_over-grown now before new grows tables =
      let lists = turns (map now tables) (map new tables) in
      same_set_by_tests rows_ordered _ _
      (λ t. any_over t (combinations (map now tables))
      ∙ any_grown now before new grows (λ row. truth d row core.cond && t (image d core.items row)) tables
      ∙ sym (list_any-append t (rows_over d core (map before tables)) (flat_map (rows_over d core) lists)
      ∙ ap₂ (λ a b. a || b) (any_rows t (map before tables)) (list_any-flat_map t (rows_over d core) lists ∙ (λ i. list_any (λ one. any_rows t one i) lists))))
    where
      any_rows : (t : Fixed → Bool) (lists : List (List Fixed)) → list_any t (rows_over d core lists) ≡ list_any (λ row. truth d row core.cond && t (image d core.items row)) (combinations lists)
      any_rows t lists = list_any-set_of rows_ordered.exact t _ ∙ any_over t (combinations lists)

  -- so are the rows of a core without EXISTS
  pub core_rows-grown : (now before new : Named) → core.semis ≡ [] → ((name : List ℕ) → IsAlike (now name) (before name ++ new name))
      → core_rows d now core
      ≡ set_of row_order (core_rows d before core ++ flat_map (rows_over d core) (turns (map (λ table. now table.name) core.tables) (map (λ table. new table.name) core.tables)))
  core_rows-grown now before new none grows =
      core_rows-over now none
      ∙ rows_over-grown (λ table. now table.name) (λ table. before table.name) (λ table. new table.name) (λ table. grows table.name) core.tables
      ∙ ap (λ rows. set_of row_order (rows ++ flat_map (rows_over d core) (turns (map (λ table. now table.name) core.tables) (map (λ table. new table.name) core.tables))))
      (sym (core_rows-over before none))
