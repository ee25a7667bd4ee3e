-- Parts of the relations at the places of a core: over them the core has the rows that it has over the whole, of combinations that pass the tests.
use Rattle.std.proofs.Common.{◌≡◌, ◌≤◌, ◌++◌, ◌+◌, ◌<◌, ◌&&◌, ℕ, ℤ, zero, suc, Bool, true, false, List, [], ◌∷◌, Option, Some, None, length, filter, map, get_or, slice_get, slice_index_or, take, refl, sym, ap, ap₂, ◌∙◌, subst, arith}
use Rattle.std.specs.List.{All, AllByRecursion, list_any}
use Rattle.std.specs.Option.{option_map}
use Rattle.std.proofs.lemmas.Bool.{and_parts}
use Rattle.std.proofs.lemmas.List.{append_assoc, append-nil, get_or-map, length-map, length-take-le, map-append, take-map, take_more}
use Rattle.std.proofs.lemmas.List.Elements.{All-filter, All-nil, All-weaker, filter_passes, recursion_from_All}
use Rattle.std.proofs.lemmas.List.Sums.{sum_by-cons}
use Rattle.std.proofs.lemmas.Option.{same_Some, slice_get-get_or}
use Rattle.og_value.specs.Order.{row_order}
use Rattle.og_value.specs.Values.{row_at}
use Rattle.og_value.specs.declared.schema.Column.{Column}
use Rattle.og_rel.specs.Relations.{relation_at}
use Rattle.og_rel.proofs.AlgebraLemmas.{filter-both, same_set_by_tests}
use Rattle.og_query.specs.Combinations.{combinations}
use Rattle.og_query.specs.Conditions.{truth}
use Rattle.og_query.specs.Expressions.{no_value}
use Rattle.og_query.specs.Kinds.{fixed_kind, kinds_of}
use Rattle.og_query.specs.Queries.{Fixed, image, ordinary_query}
use Rattle.og_query.specs.declared.query.Core.{Core}
use Rattle.og_query.specs.declared.query.From1.{From1}
use Rattle.og_query.proofs.QueryLemmas.{rows_ordered}
use Rattle.og_plan.proofs.MeaningHomes.{columns}
use Rattle.og_exec.specs.Tables.{Relation, rows_at, rows_on, rows_or_none}
use Rattle.og_db.specs.Database.{HaveKinds}
use Rattle.og_db.specs.Fits.{IsFitFixed}
use Rattle.og_query.specs.Fits.{IsFitRow}
use Rattle.og_view.specs.Tables.{AreHeld}
use Rattle.og_view.specs.Parts.{AreParts, IsHanded, IsPart, part_at, part_rels, rel_of, width_of}
use Rattle.og_view.specs.Placed.{columns_at, letters, place_schemas, placed_core, placed_query}
use Rattle.og_view.specs.Rows.{rows_over}
use Rattle.og_reduce.specs.Sieves.{Keys, Test, is_among, meets, passes, row_passes, sifted, tests_from}
use Rattle.og_view.specs.declared.part.Part.{Part}
use Rattle.og_view.proofs.GrownLemmas.{any_over, core_rows-over}
use Rattle.og_view.proofs.NarrowedLemmas.{HaveWidths, any_narrowed, any_passing, filter_every, parted_at}
use Rattle.og_view.proofs.PlacedLemmas.{by_place, length-letters, placed-by_place}
use Rattle.og_rel.proofs.PlaceLemmas.{and_nothing, nothing_and}
use Rattle.og_reduce.proofs.SieveLemmas.{passes-one}
use Rattle.og_view.proofs.SieveLemmas.{rows_on-sifted}

-- lists with one more
HaveWidths-push : (widths : List ℕ) (front : List (List Fixed)) (width : ℕ) (rows : List Fixed) → HaveWidths widths front → All (λ row. length row ≡ width) rows
    → HaveWidths (widths ++ width ∷ []) (front ++ rows ∷ [])
HaveWidths-push [] [] width rows wide fit = (fit, tt)
HaveWidths-push [] (one ∷ front) width rows wide fit = absurd wide
HaveWidths-push (n ∷ widths) [] width rows wide fit = absurd wide
HaveWidths-push (n ∷ widths) (one ∷ front) width rows wide fit = (wide.0, HaveWidths-push widths front width rows wide.1 fit)

-- the widths of tables
abbrev pub widths : List From1 → List ℕ
widths tables = map (λ table. length table.schema) tables

-- as many columns as the widths together
columns-widths : (tables : List From1) → columns (widths tables) ≡ width_of tables
columns-widths [] = refl
columns-widths (table ∷ tables) = ap (λ n. length table.schema + n) (columns-widths tables) ∙ sym (sum_by-cons (λ table. length table.schema) table tables)

-- all pass no tests
filter-none : (rows : List Fixed) → filter (passes []) rows ≡ rows
filter-none [] = refl
filter-none (row ∷ rows) = ap (λ rest. row ∷ rest) (filter-none rows)

-- a truth that another brings with it
absorbed : (a b : Bool) → (b ≡ true → a ≡ true) → (a && b) ≡ b
absorbed a true h = ap (λ a. a && true) (h refl)
absorbed true false h = refl
absorbed false false h = refl

-- of some row that is sought among those that pass tests
module _ (tests : List Test) (sought : Fixed → Bool) (pass : (row : Fixed) → sought row ≡ true → passes tests row ≡ true) where
  module _ (before : List From1) (front : List (List Fixed)) (wide : HaveWidths (widths before) front) (table : From1) (back : List (List Fixed)) where
    -- a test that is handed down to a table leaves out none
    one_test : (rows : List Fixed) → All (λ row. length row ≡ length table.schema) rows → (test : Test) → IsHanded tests before table test
        → list_any sought (combinations (front ++ filter (λ row. meets row test) rows ∷ back)) ≡ list_any sought (combinations (front ++ rows ∷ back))
    one_test rows fit test handed =
        any_narrowed (is_among test.1) test.0 back rows
        (All-weaker (λ row. length row ≡ length table.schema) (λ row. test.0 < length row) (λ row is. omega (arith, is, handed.2.1)) rows fit)
        sought (widths before) front wide
        ∙ (λ i. list_any (λ row. same row i) (combinations (front ++ rows ∷ back)))
      where
        there : columns (widths before) + test.0 ≡ handed.0
        there = ap (λ n. n + test.0) (columns-widths before) ∙ sym handed.2.0

        same : (row : Fixed) → (is_among test.1 (slice_index_or row (columns (widths before) + test.0) no_value) && sought row) ≡ sought row
        same row =
            absorbed _ (sought row)
            (λ is. ap (λ k. is_among test.1 (slice_index_or row k no_value)) there ∙ passes-one tests row (handed.0, test.1) handed.1 (pass row is))

    -- nor do several
    all_tests : (sieve : List Test) (rows : List Fixed) → All (λ row. length row ≡ length table.schema) rows → AllByRecursion (IsHanded tests before table) sieve
        → list_any sought (combinations (front ++ filter (passes sieve) rows ∷ back)) ≡ list_any sought (combinations (front ++ rows ∷ back))
    all_tests [] rows fit handed = ap (λ rows. list_any sought (combinations (front ++ rows ∷ back))) (filter-none rows)
    all_tests (test ∷ sieve) rows fit handed =
        ap (λ rows. list_any sought (combinations (front ++ rows ∷ back))) (filter-both (passes (test ∷ sieve)) (λ row. meets row test) (passes sieve) (λ row. refl) rows)
        ∙ all_tests sieve (filter (λ row. meets row test) rows) (All-filter (λ row. meets row test) (λ row. length row ≡ length table.schema) rows fit) handed.1
        ∙ one_test rows fit test handed.0

module _ (d : ℤ) where
  -- the rows that the places have on a day
  abbrev pub whole_rows : (ℕ → Option Relation) → List From1 → List (List Fixed)
  whole_rows rels tables = by_place (λ k. rows_or_none (rels k) d) tables

  -- and those that their parts have
  abbrev pub part_rows : (ℕ → Option Relation) → List Part → List From1 → List (List Fixed)
  part_rows rels (part ∷ parts) (table ∷ tables) = filter (passes part.sieve) (rows_or_none (rels 0) d) ∷ part_rows (λ k. rels (suc k)) parts tables
  part_rows rels parts tables = []

  -- those have as many columns
  part_widths : (tests : List Test) (rels : ℕ → Option Relation) (before tables : List From1) (parts : List Part) → AreParts rels tests before tables parts
      → HaveWidths (widths tables) (whole_rows rels tables) → HaveWidths (widths tables) (part_rows rels parts tables)
  part_widths tests rels before [] [] are wide = tt
  part_widths tests rels before [] (part ∷ parts) are wide = absurd are
  part_widths tests rels before (table ∷ tables) [] are wide = absurd are
  part_widths tests rels before (table ∷ tables) (part ∷ parts) are wide = (
    All-filter (passes part.sieve) (λ row. length row ≡ length table.schema) (rows_or_none (rels 0) d) wide.0,
    part_widths tests (λ k. rels (suc k)) (before ++ table ∷ []) tables parts are.1 wide.1,
  )

  -- what holds of all rows of a place holds of those of its part
  part_all : (P : Fixed → Type 0) (rels : ℕ → Option Relation) (parts : List Part) (tables : List From1) (place : ℕ) → All P (rows_or_none (rels place) d)
      → All P (slice_index_or (part_rows rels parts tables) place [])
  part_all P rels [] tables place all = All-nil P
  part_all P rels (part ∷ parts) [] place all = All-nil P
  part_all P rels (part ∷ parts) (table ∷ tables) zero all = All-filter (passes part.sieve) P (rows_or_none (rels 0) d) all
  part_all P rels (part ∷ parts) (table ∷ tables) (suc place) all = part_all P (λ k. rels (suc k)) parts tables place all

  -- the list at a place
  whole_all : (P : Fixed → Type 0) (rels : ℕ → Option Relation) (tables : List From1) (place : ℕ) → All P (rows_or_none (rels place) d) → All P (slice_index_or (whole_rows rels tables) place [])
  whole_all P rels [] place all = All-nil P
  whole_all P rels (table ∷ tables) zero all = all
  whole_all P rels (table ∷ tables) (suc place) all = whole_all P (λ k. rels (suc k)) tables place all

  module _ (tests : List Test) (sought : Fixed → Bool) (pass : (row : Fixed) → sought row ≡ true → passes tests row ≡ true) where
    -- of some combination of rows of the parts that is sought: of some one of all rows
    pub same_any : (rels : ℕ → Option Relation) (before : List From1) (front : List (List Fixed)) → HaveWidths (widths before) front → (tables : List From1)
        → HaveWidths (widths tables) (whole_rows rels tables) → (parts : List Part) → AreParts rels tests before tables parts
        → list_any sought (combinations (front ++ part_rows rels parts tables)) ≡ list_any sought (combinations (front ++ whole_rows rels tables))
    same_any rels before front wide [] fit [] are = refl
    same_any rels before front wide [] fit (part ∷ parts) are = absurd are
    same_any rels before front wide (table ∷ tables) fit [] are = absurd are
    same_any rels before front wide (table ∷ tables) fit (part ∷ parts) are =
        let rows = rows_or_none (rels 0) d in
        let more : ℕ → Option Relation = λ k. rels (suc k) in
        all_tests tests sought pass before front wide table (part_rows more parts tables) part.sieve rows fit.0 (recursion_from_All (IsHanded tests before table) part.sieve are.0.1)
        ∙ ap (λ lists. list_any sought (combinations lists)) (sym (append_assoc front (rows ∷ []) (part_rows more parts tables)))
        ∙ same_any more (before ++ table ∷ []) (front ++ rows ∷ [])
        (subst (λ ns. HaveWidths ns (front ++ rows ∷ [])) (sym (map-append (λ table. length table.schema) before (table ∷ []))) (HaveWidths-push (widths before) front (length table.schema) rows wide fit.0))
        tables fit.1 parts are.1
        ∙ ap (λ lists. list_any sought (combinations lists)) (append_assoc front (rows ∷ []) (whole_rows more tables))

  -- the rows of a part
  read_part : (sieve : List Test) (o : Option Relation) → rows_or_none (option_map (sifted sieve) o) d ≡ filter (passes sieve) (rows_or_none o d)
  read_part sieve None = refl
  read_part sieve (Some rel) = rows_on-sifted sieve rel d

  -- what is read at each place
  reads_parts : (tests : List Test) (rels : ℕ → Option Relation) (before tables : List From1) (parts : List Part) → AreParts rels tests before tables parts
      → by_place (λ k. rows_or_none (part_at (slice_get parts k)) d) tables ≡ part_rows rels parts tables
  reads_parts tests rels before [] [] are = refl
  reads_parts tests rels before [] (part ∷ parts) are = absurd are
  reads_parts tests rels before (table ∷ tables) [] are = absurd are
  reads_parts tests rels before (table ∷ tables) (part ∷ parts) are =
      ap₂ (λ x xs. x ∷ xs) (ap (λ o. rows_or_none o d) are.0.0 ∙ read_part part.sieve (rels 0)) (reads_parts tests (λ k. rels (suc k)) (before ++ table ∷ []) tables parts are.1)

  module _ (core : Core) (tests : List Test) (rels : ℕ → Option Relation) (parts : List Part) (are : AreParts rels tests [] core.tables parts)
      (wide : HaveWidths (widths core.tables) (whole_rows rels core.tables)) where
    -- the query of the core over names by place has the rows over those of the parts
    pub rows_of_parts : ordinary_query d (rows_at (part_rels parts) d) (placed_query core) ≡ rows_over d core (part_rows rels parts core.tables)
    rows_of_parts =
        core_rows-over d (placed_core core) (rows_at (part_rels parts) d) refl
        ∙ ap (rows_over d core)
        (placed-by_place (λ name. rows_at (part_rels parts) d name) 0 core.tables
        ∙ (λ i. by_place (λ k. rows_or_none (part_at (slice_get parts (number k i))) d) core.tables)
        ∙ reads_parts tests rels [] core.tables parts are)
      where
        number : (k : ℕ) → length (letters (0 + k)) ≡ k
        number k = length-letters (0 + k) ∙ nothing_and k

    module _ (place : ℕ) (within : place < length core.tables) (keys : List Keys) (table : From1) (count : length keys ≤ length (slice_index_or core.tables place table).schema)
        (told : (row : Fixed) → truth d row core.cond ≡ true → passes (tests_from (width_of (take place core.tables)) keys) row ≡ true → passes tests row ≡ true)
        (each : All (λ row. passes (tests_from 0 keys) row ≡ true) (rows_or_none (rels place) d)) where
      -- the tests that the rows of the place pass
      abbrev own_tests : List Test
      own_tests = tests_from (width_of (take place core.tables)) keys

      -- all combinations pass these
      inserted : (lists : List (List Fixed)) → HaveWidths (widths core.tables) lists → All (λ row. passes (tests_from 0 keys) row ≡ true) (slice_index_or lists place []) → (t : Fixed → Bool)
          → list_any t (combinations lists) ≡ list_any (λ row. passes own_tests row && t row) (combinations lists)
      inserted lists fit all t =
          let parted = parted_at (widths core.tables) lists place fit (omega (arith, within, length-map core.tables (λ table. length table.schema))) in
          let rows = slice_index_or lists place [] in
          let start : columns (take place (widths core.tables)) + 0 ≡ width_of (take place core.tables) =
          sym (and_nothing (columns (take place (widths core.tables)))) ∙ ap columns (take-map (λ table. length table.schema) place core.tables) ∙ columns-widths (take place core.tables) in
          let width = get_or-map (λ table. length table.schema) core.tables place table 0 within in
          subst (λ all. list_any t (combinations all) ≡ list_any (λ row. passes own_tests row && t row) (combinations all)) (sym parted.2)
          (subst (λ n. list_any t (combinations (parted.0 ++ rows ∷ parted.1)) ≡ list_any (λ row. passes (tests_from n keys) row && t row) (combinations (parted.0 ++ rows ∷ parted.1))) start
          (any_passing (take place (widths core.tables)) parted.0 parted.3 rows parted.1 keys 0
          (All-weaker (λ row. length row ≡ slice_index_or (widths core.tables) place 0) (λ row. 0 + length keys ≤ length row) (λ row is. omega (arith, is, width, count)) rows parted.4) all t))

      -- so over the parts the core has the rows that it has over the whole
      pub rows_beside : rows_over d core (part_rows rels parts core.tables) ≡ rows_over d core (whole_rows rels core.tables)
      rows_beside =
          same_set_by_tests rows_ordered _ _
          (λ t. any_over d core t (combinations (part_rows rels parts core.tables))
          ∙ inserted (part_rows rels parts core.tables) (part_widths tests rels [] core.tables parts are wide)
          (part_all (λ row. passes (tests_from 0 keys) row ≡ true) rels parts core.tables place each) (λ row. truth d row core.cond && t (image d core.items row))
          ∙ same_any tests (λ row. passes own_tests row && (truth d row core.cond && t (image d core.items row)))
          (λ row is. let both = and_parts (passes own_tests row) _ is in told row (and_parts (truth d row core.cond) _ both.1).0 both.0)
          rels [] [] tt core.tables wide parts are
          ∙ sym (inserted (whole_rows rels core.tables) wide (whole_all (λ row. passes (tests_from 0 keys) row ≡ true) rels core.tables place each) (λ row. truth d row core.cond && t (image d core.items row)))
          ∙ sym (any_over d core t (combinations (whole_rows rels core.tables))))

-- rows of a relation that all pass tests pass them on each day
pub each_on_day : (tests : List Test) (rel : Relation) → All (λ p. row_passes tests p.0 ≡ true) rel → (d : ℤ) → All (λ row. passes tests row ≡ true) (rows_on rel d)
each_on_day tests rel all d =
    subst (All (λ row. passes tests row ≡ true)) (sym (rows_on-sifted tests rel d) ∙ ap (λ rel. rows_on rel d) (filter_every (λ p. row_passes tests p.0) rel all))
    (filter_passes (passes tests) (rows_on rel d))

-- each place has a relation whose rows fit its table
abbrev pub AreThere : (ℕ → Option Relation) → List From1 → Type 0
AreThere rels tables = (k : ℕ) (table : From1) → slice_get tables k ≡ Some table → (rel : Relation) × (rels k ≡ Some rel) × HaveKinds table.schema rel

-- rows that fit columns have as many values
fit_width : (schema : List Column) (row : Fixed) → map fixed_kind row ≡ kinds_of schema → length row ≡ length schema
fit_width schema row e = sym (length-map row fixed_kind) ∙ ap length e ∙ length-map schema (λ column. column.kind)

-- so the rows of each have as many values as its table columns
pub there_widths : ((columns : List Column) (rel : Relation) → HaveKinds columns rel → (d : ℤ) → All (IsFitFixed columns) (relation_at row_order row_at rel d)) → (d : ℤ)
    → (rels : ℕ → Option Relation) (tables : List From1) → AreThere rels tables → HaveWidths (widths tables) (whole_rows d rels tables)
there_widths on_a_day d rels [] there = tt
there_widths on_a_day d rels (table ∷ tables) there =
    let one = there 0 table refl in (
      subst (λ o. All (λ row. length row ≡ length table.schema) (rows_or_none o d)) (sym one.1)
          (All-weaker (IsFitFixed table.schema) (λ row. length row ≡ length table.schema) (fit_width table.schema) (rows_on one.0 d) (on_a_day table.schema one.0 one.2 d)),
      there_widths on_a_day d (λ k. rels (suc k)) tables (λ k. there (suc k)),
    )

module _ (tests : List Test) where
  -- one part more
  AreParts-push : (rels : ℕ → Option Relation) (before tables : List From1) (parts : List Part) (part : Part) (table : From1) → AreParts rels tests before tables parts
      → IsPart (rels (length tables)) tests (before ++ tables) table part → AreParts rels tests before (tables ++ table ∷ []) (parts ++ part ∷ [])
  AreParts-push rels before [] [] part table are is = (subst (λ before. IsPart (rels 0) tests before table part) (append-nil before) is, tt)
  AreParts-push rels before [] (other ∷ parts) part table are is = absurd are
  AreParts-push rels before (one ∷ tables) [] part table are is = absurd are
  AreParts-push rels before (one ∷ tables) (other ∷ parts) part table are is = (
    are.0,
    AreParts-push (λ k. rels (suc k)) (before ++ one ∷ []) tables parts part table are.1
        (subst (λ before. IsPart (rels (suc (length tables))) tests before table part) (sym (append_assoc before (one ∷ []) tables)) is),
  )

  -- the step of a loop over the places, which makes one part more
  pub parts_more : (rels : ℕ → Option Relation) (tables : List From1) (parts more : List Part) (part : Part) (k : ℕ) → more ≡ parts ++ part ∷ [] → k < length tables
      → ((table : From1) → slice_get tables k ≡ Some table → IsPart (rels k) tests (take k tables) table part) → AreParts rels tests [] (take k tables) parts
      → AreParts rels tests [] (take (k + 1) tables) more
  parts_more rels tables parts more part k is within of before =
      let none : From1 = record { name = []; schema = [] } in
      let table = get_or tables k none in
      subst (λ tables. AreParts rels tests [] tables more) (sym (take_more tables k none within))
      (subst (AreParts rels tests [] (take k tables ++ table ∷ [])) (sym is)
      (AreParts-push rels [] (take k tables) parts part table before
      (subst (λ n. IsPart (rels n) tests (take k tables) table part) (sym (length-take-le k tables (omega (arith, within)))) (of table (slice_get-get_or tables k none within)))))

  -- the part of a table
  part_there : (rels : ℕ → Option Relation) (before tables : List From1) (parts : List Part) (k : ℕ) (table : From1) → AreParts rels tests before tables parts → slice_get tables k ≡ Some table
      → (part : Part) × (slice_get parts k ≡ Some part) × (option_map rel_of part.rows ≡ option_map (sifted part.sieve) (rels k))
  part_there rels before [] parts k table are there = cc there
  part_there rels before (one ∷ tables) [] k table are there = absurd are
  part_there rels before (one ∷ tables) (part ∷ parts) zero table are there = (part, refl, are.0.0)
  part_there rels before (one ∷ tables) (part ∷ parts) (suc k) table are there = part_there (λ k. rels (suc k)) (before ++ one ∷ []) tables parts k table are.1 there

  module _ (rels : ℕ → Option Relation) (tables : List From1) (there : AreThere rels tables) (parts : List Part) (are : AreParts rels tests [] tables parts) where
    -- at a place the part of the table has a relation
    at_place : (k : ℕ) (columns : List Column) (o : Option From1) → slice_get tables k ≡ o → columns_at o ≡ Some columns
        → (rel : Relation) × (part_at (slice_get parts k) ≡ Some rel) × All (λ p. IsFitRow columns p.0) rel
    at_place k columns None at as_known = cc as_known
    at_place k columns (Some table) at as_known =
        let part = part_there rels [] tables parts k table are at in
        let all = there k table at in
        subst (λ columns. (rel : Relation) × (part_at (slice_get parts k) ≡ Some rel) × All (λ p. IsFitRow columns p.0) rel) (same_Some table.schema columns as_known)
        (sifted part.0.sieve all.0, ap part_at part.1 ∙ part.2 ∙ ap (option_map (sifted part.0.sieve)) all.1, All-filter _ (λ p. IsFitRow table.schema p.0) all.0 all.2)

    -- each place has its relation
    pub parts_held : AreHeld (place_schemas tables) (part_rels parts)
    parts_held [] columns as_known = cc as_known
    parts_held (letter ∷ name) columns as_known = at_place (length name) columns (slice_get tables (length name)) refl as_known
