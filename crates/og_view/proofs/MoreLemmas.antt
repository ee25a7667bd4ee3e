-- What a core has at one place, where a name gets new rows: the rows over the places that are so read.
use Rattle.std.proofs.Common.{◌≡◌, ◌≤◌, ◌<◌, ◌==◌, ◌++◌, ◌+◌, ℕ, ℤ, zero, suc, Bool, true, false, List, [], ◌∷◌, Some, length, filter, map, slice_get, slice_index_or, take, if◌then◌else◌, refl, sym, ap, ◌∙◌, subst, arith}
use Rattle.std.specs.Cmp.Lexicographic.{same_text}
use Rattle.std.specs.List.{All, flat_map}
use Rattle.std.specs.Str.{bytes_eq}
use Rattle.std.proofs.lemmas.Bool.{eqb-true}
use Rattle.std.proofs.lemmas.List.{append-nil, flat_map_more, get_or-map, length-map, take_all, take_more}
use Rattle.std.proofs.lemmas.Option.{get_or_from_slice_get, same_Some}
use Rattle.og_base.specs.Set.{set_of}
use Rattle.og_base.proofs.SetLemmas.{set_of-append, set_of-set_of}
use Rattle.og_value.specs.Order.{row_order}
use Rattle.og_value.specs.Values.{row_at}
use Rattle.og_value.specs.declared.schema.Column.{Column}
use Rattle.og_rel.specs.Relations.{present}
use Rattle.og_query.specs.Combinations.{combinations}
use Rattle.og_query.specs.Fits.{Schemas, IsAsNamed}
use Rattle.og_query.specs.Conditions.{truth}
use Rattle.og_query.specs.Queries.{Fixed, image}
use Rattle.og_query.specs.declared.query.Core.{Core}
use Rattle.og_query.specs.declared.query.From1.{From1}
use Rattle.og_query.proofs.QueryLemmas.{rows_ordered}
use Rattle.og_exec.specs.Tables.{Relations, rows_at, rows_on, rows_or_none}
use Rattle.og_db.specs.Database.{Relation, HaveKinds}
use Rattle.og_view.specs.Tables.{AreHeld}
use Rattle.og_view.specs.Parts.{beside_at}
use Rattle.og_view.specs.Placed.{beside, gets, more_lists}
use Rattle.og_view.specs.Rows.{rows_over, turns}
use Rattle.og_view.proofs.PlacedLemmas.{beside-by_place, by_place, named_at, sided}

module _ (rows new : From1 → List Fixed) where
  -- the new rows at one place, and the rows of the tables at the others
  abbrev turned : ℕ → List From1 → List (List Fixed)
  turned zero [] = []
  turned zero (table ∷ tables) = new table ∷ map rows tables
  turned (suc place) [] = []
  turned (suc place) (table ∷ tables) = rows table ∷ turned place tables

  -- there is a turn for each place
  pub length-turns : (tables : List From1) → length (turns (map rows tables) (map new tables)) ≡ length tables
  length-turns [] = refl
  length-turns (table ∷ tables) = ap suc (length-map (turns (map rows tables) (map new tables)) (λ one. rows table ∷ one) ∙ length-turns tables)

  -- that of a place
  turn_at : (place : ℕ) (tables : List From1) → place < length tables → slice_index_or (turns (map rows tables) (map new tables)) place [] ≡ turned place tables
  turn_at zero [] within = absurd (omega (arith, within))
  turn_at (suc place) [] within = absurd (omega (arith, within))
  turn_at zero (table ∷ tables) within = refl
  turn_at (suc place) (table ∷ tables) within =
      get_or-map (λ one. rows table ∷ one) (turns (map rows tables) (map new tables)) place [] [] (omega (arith, within, length-turns tables))
      ∙ ap (λ one. rows table ∷ one) (turn_at place tables (omega (arith, within)))

-- a relation without rows
pub no_rows : (rel : Relation) → length rel ≤ 0 → rel ≡ []
no_rows [] h = refl
no_rows (p ∷ rel) h = absurd (omega (arith, h))

-- nothing is added by no rows
pub nothing_added : (rel : Relation) (d : ℤ) (rows : List Fixed) → rows ≡ [] → rows_on rel d ≡ set_of row_order (rows_on rel d ++ rows)
nothing_added rel d rows none =
    sym (set_of-set_of rows_ordered (present row_at rel d)) ∙ ap (set_of row_order) (sym (append-nil (rows_on rel d))) ∙ ap (λ rows. set_of row_order (rows_on rel d ++ rows)) (sym none)

module _ {X : Type 0} (rows_for : X → List Fixed) where
  -- what is gathered of the first and of one more
  pub gathered_more : (start before now : List Fixed) (xs : List X) (k : ℕ) (x : X) → k < length xs → before ≡ set_of row_order (start ++ flat_map rows_for (take k xs))
      → now ≡ set_of row_order (before ++ rows_for (slice_index_or xs k x)) → now ≡ set_of row_order (start ++ flat_map rows_for (take (k + 1) xs))
  gathered_more start before now xs k x within so_far step =
      let one = slice_index_or xs k x in
      step
      ∙ ap (λ rows. set_of row_order (rows ++ rows_for one)) so_far
      ∙ set_of-append rows_ordered (start ++ flat_map rows_for (take k xs)) (rows_for one)
      ∙ ap (set_of row_order) (flat_map_more rows_for start (take k xs) one ∙ ap (λ ys. start ++ flat_map rows_for ys) (sym (take_more xs k x within)))

  -- the same, where the one more is told
  pub gathered_next : (start before now : List Fixed) (xs : List X) (k : ℕ) (x : X) → k < length xs → x ≡ slice_index_or xs k x → before ≡ set_of row_order (start ++ flat_map rows_for (take k xs))
      → now ≡ set_of row_order (before ++ rows_for x) → now ≡ set_of row_order (start ++ flat_map rows_for (take (k + 1) xs))
  gathered_next start before now xs k x within is so_far step = gathered_more start before now xs k x within so_far (step ∙ ap (λ one. set_of row_order (before ++ rows_for one)) is)

  -- and of all
  pub gathered_all : (start now : List Fixed) (xs : List X) (k : ℕ) → length xs ≤ k → now ≡ set_of row_order (start ++ flat_map rows_for (take k xs)) → now ≡ set_of row_order (start ++ flat_map rows_for xs)
  gathered_all start now xs k all so_far = so_far ∙ ap (λ ys. set_of row_order (start ++ flat_map rows_for ys)) (take_all k xs all)

-- none of none
pub none_each : (rows : List Fixed) → flat_map (λ row. map (λ rest. row ++ rest) []) rows ≡ []
none_each [] = refl
none_each (row ∷ rows) = none_each rows

module _ (d : ℤ) (named : Relations) (name : List ℕ) (new : Relation) where
  -- the rows of the tables
  abbrev pub table_rows : From1 → List Fixed
  table_rows table = rows_at named d table.name

  -- and those that they get
  abbrev pub new_rows : From1 → List Fixed
  new_rows table = rows_on (gets name new table.name) d

  -- what the places have is the turn of the place
  sided_turned : (place : ℕ) (tables : List From1) (table : From1) → place < length tables → bytes_eq name (slice_index_or tables place table).name ≡ true
      → sided named new (λ o. rows_or_none o d) place tables ≡ turned table_rows new_rows place tables
  sided_turned zero [] table within here = refl
  sided_turned (suc place) [] table within here = refl
  sided_turned zero (one ∷ tables) table within here = ap (λ b. rows_on (if b then new else []) d ∷ map table_rows tables) (sym here)
  sided_turned (suc place) (one ∷ tables) table within here = ap (λ lists. table_rows one ∷ lists) (sided_turned place tables table (omega (arith, within)) here)

  -- the places have the turn of the place
  pub rows_at_place : (core : Core) (place : ℕ) (table : From1) → place < length core.tables → bytes_eq name (slice_index_or core.tables place table).name ≡ true
      → rows_over d core (by_place (λ k. rows_or_none (beside_at named new place core.tables k) d) core.tables) ≡ rows_over d core (slice_index_or (more_lists d named name new core) place [])
  rows_at_place core place table within here =
      ap (rows_over d core)
      (beside-by_place named new (λ o. rows_or_none o d) place core.tables ∙ sided_turned place core.tables table within here ∙ sym (turn_at table_rows new_rows place core.tables within))

  -- no combinations where the place gets nothing
  none_turned : (place : ℕ) (tables : List From1) (table : From1) → place < length tables → new_rows (slice_index_or tables place table) ≡ []
      → combinations (turned table_rows new_rows place tables) ≡ []
  none_turned zero [] table within none = absurd (omega (arith, within))
  none_turned (suc place) [] table within none = absurd (omega (arith, within))
  none_turned zero (one ∷ tables) table within none = ap (λ rows. combinations (rows ∷ map table_rows tables)) none
  none_turned (suc place) (one ∷ tables) table within none =
      ap (λ rest. flat_map (λ row. map (λ more. row ++ more) rest) (table_rows one)) (none_turned place tables table (omega (arith, within)) none) ∙ none_each (table_rows one)

  -- and no rows
  no_rows_over : (core : Core) (place : ℕ) (table : From1) → place < length core.tables → new_rows (slice_index_or core.tables place table) ≡ []
      → rows_over d core (slice_index_or (more_lists d named name new core) place []) ≡ []
  no_rows_over core place table within none =
      ap (rows_over d core) (turn_at table_rows new_rows place core.tables within)
      ∙ ap (λ all. set_of row_order (map (image d core.items) (filter (λ row. truth d row core.cond) all))) (none_turned place core.tables table within none)

  -- so where the table there is another
  pub no_rows_at_place : (core : Core) (place : ℕ) (table : From1) → place < length core.tables → bytes_eq name (slice_index_or core.tables place table).name ≡ false
      → rows_over d core (slice_index_or (more_lists d named name new core) place []) ≡ []
  no_rows_at_place core place table within off = no_rows_over core place table within (ap (λ b. rows_on (if b then new else []) d) off)

  -- and where there are no new rows
  pub no_rows_of_none : (core : Core) (place : ℕ) (table : From1) → place < length core.tables → new ≡ [] → rows_over d core (slice_index_or (more_lists d named name new core) place []) ≡ []
  no_rows_of_none core place table within none = no_rows_over core place table within (at (bytes_eq name (slice_index_or core.tables place table).name))
    where
      at : (b : Bool) → rows_on (if b then new else []) d ≡ []
      at true = ap (λ rel. rows_on rel d) none
      at false = refl

module _ (schemas : Schemas) (named : Relations) (held : AreHeld schemas named) (name : List ℕ) (columns : List Column) (known : schemas name ≡ Some columns) (new : Relation) (fit : HaveKinds columns new)
    (tables : List From1) (all : All (IsAsNamed schemas) tables) (place : ℕ) (one : From1) (here : bytes_eq name (slice_index_or tables place one).name ≡ true) where
  -- the new rows fit the place
  fit_there : (table : From1) → slice_get tables place ≡ Some table → HaveKinds table.schema new
  fit_there table there =
      let same : name ≡ table.name = same_text name table.name (sym (ap (λ t. bytes_eq name t.name) (sym (get_or_from_slice_get tables place table one there)) ∙ here)) in
      subst (λ cs. HaveKinds cs new) (same_Some columns table.schema (sym known ∙ ap schemas same ∙ named_at schemas tables all place table there)) fit

  side : (k : ℕ) (table : From1) → slice_get tables k ≡ Some table → (b : Bool) → (k == place) ≡ b
      → (rel : Relation) × ((if b then Some new else named table.name) ≡ Some rel) × HaveKinds table.schema rel
  side k table there true at = (new, refl, fit_there table (ap (slice_get tables) (sym (eqb-true k place at)) ∙ there))
  side k table there false at = held table.name table.schema (named_at schemas tables all k table there)

  -- each place has its relation
  pub places_there : (k : ℕ) (table : From1) → slice_get tables k ≡ Some table → (rel : Relation) × (beside_at named new place tables k ≡ Some rel) × HaveKinds table.schema rel
  places_there k table there =
      let one = side k table there (k == place) refl in (one.0, ap (beside named new place k) there ∙ one.1, one.2)
