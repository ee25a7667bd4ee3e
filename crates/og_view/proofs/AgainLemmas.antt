-- A core over parts of its tables: its rows that pass tests of its items are those that it has over the tables.
use Rattle.std.proofs.Common.{◌≡◌, ◌&&◌, ℕ, ℤ, zero, suc, Bool, true, List, [], ◌∷◌, Some, length, filter, map, slice_get, slice_index_or, refl, sym, ap, ◌∙◌, arith}
use Rattle.std.specs.List.{All, list_any}
use Rattle.std.proofs.lemmas.Bool.{and_parts}
use Rattle.og_base.proofs.SetLemmas.{filter-set_of}
use Rattle.og_base.proofs.SetMembers.{list_any-filter}
use Rattle.og_rel.proofs.AlgebraLemmas.{same_set_by_tests}
use Rattle.og_query.specs.Combinations.{combinations}
use Rattle.og_query.specs.Conditions.{truth}
use Rattle.og_query.specs.Expressions.{meaning, no_value}
use Rattle.og_query.specs.Fits.{IsAsNamed, Schemas}
use Rattle.og_query.specs.Queries.{Fixed, image, ordinary_query}
use Rattle.og_query.specs.declared.expression.Expr.{Expr}
use Rattle.og_query.specs.declared.expression.Expr.TheVariants as expr
use Rattle.og_query.specs.declared.query.Core.{Core}
use Rattle.og_query.specs.declared.query.From1.{From1}
use Rattle.og_query.proofs.Equations.{meaning-Column}
use Rattle.og_query.proofs.QueryLemmas.{rows_ordered}
use Rattle.og_exec.specs.Tables.{Relation, Relations, rows_at}
use Rattle.og_view.specs.Again.{passing_rows}
use Rattle.og_view.specs.Tables.{AreHeld}
use Rattle.og_view.specs.Parts.{AreParts, own, own_at, part_rels}
use Rattle.og_view.specs.Placed.{placed_query}
use Rattle.og_view.specs.Rows.{rows_over}
use Rattle.og_reduce.specs.Sieves.{Test, passes, sifted}
use Rattle.og_view.specs.declared.part.Part.{Part}
use Rattle.og_view.proofs.GrownLemmas.{any_over}
use Rattle.og_view.proofs.NarrowedLemmas.{HaveWidths}
use Rattle.og_view.proofs.PartLemmas.{AreThere, part_rows, rows_of_parts, same_any, whole_rows, widths}
use Rattle.og_view.proofs.PlacedLemmas.{named_at}
use Rattle.og_reduce.proofs.SieveLemmas.{sifted-none}

-- the image has at the place of an item that is a column what the row has in that
pub handed_through : (d : ℤ) (row : Fixed) (items : List Expr) (item place : ℕ) → slice_get items item ≡ Some (expr.Column place)
    → slice_index_or (image d items row) item no_value ≡ slice_index_or row place no_value
handed_through d row [] item place is = cc is
handed_through d row (x ∷ items) zero place is = let same : x ≡ expr.Column place = cc is in ap (meaning d row) same ∙ meaning-Column d row place
handed_through d row (x ∷ items) (suc item) place is = handed_through d row items item place is

-- the rows at the places of tables are those of the tables
own_rows : (d : ℤ) (named : Relations) (tables : List From1) → whole_rows d (own_at named tables) tables ≡ map (λ table. rows_at named d table.name) tables
own_rows d named [] = refl
own_rows d named (table ∷ tables) = ap (λ rest. rows_at named d table.name ∷ rest) (own_rows d named tables)

-- each table has its relation
pub own_there : (schemas : Schemas) (named : Relations) → AreHeld schemas named → (tables : List From1) → All (IsAsNamed schemas) tables → AreThere (own_at named tables) tables
own_there schemas named held tables fits k table there =
    let all = held table.name table.schema (named_at schemas tables fits k table there) in (all.0, ap (own named) there ∙ all.1, all.2)

module _ (d : ℤ) (core : Core) (tests inner : List Test) (told : (row : Fixed) → truth d row core.cond ≡ true → passes tests (image d core.items row) ≡ true → passes inner row ≡ true)
    (named : Relations) (parts : List Part) (are : AreParts (own_at named core.tables) inner [] core.tables parts)
    (wide : HaveWidths (widths core.tables) (whole_rows d (own_at named core.tables) core.tables)) where
  -- the rows over the parts that pass are those over the whole that do
  same_passing : filter (passes tests) (rows_over d core (part_rows d (own_at named core.tables) parts core.tables)) ≡ filter (passes tests) (rows_over d core (whole_rows d (own_at named core.tables) core.tables))
  same_passing =
      filter-set_of rows_ordered (passes tests) _
      ∙ same_set_by_tests rows_ordered _ _
      (λ t. any_passing t (part_rows d (own_at named core.tables) parts core.tables)
      ∙ same_any d inner (λ row. truth d row core.cond && (passes tests (image d core.items row) && t (image d core.items row)))
      (λ row is. let both = and_parts (truth d row core.cond) _ is in told row both.0 (and_parts (passes tests (image d core.items row)) _ both.1).0)
      (own_at named core.tables) [] [] tt core.tables wide parts are
      ∙ sym (any_passing t (whole_rows d (own_at named core.tables) core.tables)))
      ∙ sym (filter-set_of rows_ordered (passes tests) _)
    where
      any_passing : (t : Fixed → Bool) (lists : List (List Fixed))
          → list_any t (filter (passes tests) (map (image d core.items) (filter (λ row. truth d row core.cond) (combinations lists))))
          ≡ list_any (λ row. truth d row core.cond && (passes tests (image d core.items row) && t (image d core.items row))) (combinations lists)
      any_passing t lists = list_any-filter t (passes tests) _ ∙ any_over d core (λ out. passes tests out && t out) (combinations lists)

  -- so what is asked over names by place has of those that pass the rows of the core
  pub passing_parts : filter (passes tests) (ordinary_query d (rows_at (part_rels parts) d) (placed_query core)) ≡ passing_rows d named tests core
  passing_parts =
      ap (filter (passes tests)) (rows_of_parts d core inner (own_at named core.tables) parts are wide)
      ∙ same_passing
      ∙ ap (λ lists. filter (passes tests) (rows_over d core lists)) (own_rows d named core.tables)

-- without tests all rows of a relation pass
pub sifted-no_tests : (sieve : List Test) → length sieve ≡ 0 → (rel : Relation) → rel ≡ sifted sieve rel
sifted-no_tests [] none rel = sym (sifted-none rel)
sifted-no_tests (test ∷ sieve) none rel = absurd (omega (arith, none))
