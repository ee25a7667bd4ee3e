-- What statements write, over a database that is the world of each day.
use Rattle.std.proofs.Common.{◌≡◌, ℕ, ℤ, List, [], ◌∷◌, Option, Some, None, map, codes, length, refl, sym, ap, ap₂, ◌∙◌}
use Rattle.std.specs.Option.{option_map}
use Rattle.std.proofs.lemmas.Option.{same_Some}
use Rattle.og_base.specs.Calendar.{IsRefDay}
use Rattle.og_value.specs.Order.{row_order}
use Rattle.og_value.specs.Values.{row_at}
use Rattle.og_value.specs.declared.schema.Column.{Column}
use Rattle.og_rel.specs.Relations.{relation_at}
use Rattle.og_query.specs.Queries.{Fixed, ordinary_query}
use Rattle.og_query.specs.declared.query.Query.{Query}
use Rattle.og_query.specs.declared.typed.Typed.{Typed}
use Rattle.og_query.specs.declared.typed.Typed.TheVariants as t
use Rattle.og_db.specs.Database.{Relation}
use Rattle.og_db.specs.Effects.{Effect, on_names}
use Rattle.og_exec.specs.Tables.{rows_at}
use Rattle.og_db.specs.Held.{Held, all_made_of, described, found, made_of, rows_of}
use Rattle.og_db.specs.Runs.{AreWithin, IsWorldOf, sizes_at}
use Rattle.og_db.specs.Statements.{IsOfNames, named_rows}
use Rattle.og_db.proofs.WorldLemmas.{found-made_of}
use Rattle.og_output.specs.Records.{layout, names_text, records, what_word}
use Rattle.og_session.proofs.AnswerLemmas.{rows_at-world}
use Rattle.og_session.specs.Output.{held_layout, piece_of}

-- the record of a name
abbrev pub name_record : {V : Type 0} → Held V → List (List ℕ)
name_record h = h.name ∷ what_word h.what ∷ []

module _ (db files : List (Held Relation)) (before : List Effect) (world : IsWorldOf db files before) where
  -- a PRINT of a name writes what the name holds on the day
  pub piece-name : (name : List ℕ) (day : ℤ) → IsRefDay day → held_layout (option_map (made_of (λ rel. relation_at row_order row_at rel day)) (found db name)) ≡ piece_of before (on_names (t.PrintName name day, tt))
  piece-name name day is = ap held_layout (sym (found-made_of (λ rel. relation_at row_order row_at rel day) db name)) ∙ ap (λ w. held_layout (found w name)) (world.names day is)

  -- a PRINT of a query writes the ordinary answer on the day
  pub piece-query : (query : Query) (day : ℤ) (rows : List Fixed) → IsRefDay day → rows ≡ ordinary_query day (rows_at (rows_of db) day) query → layout query.first.schema rows ≡ piece_of before (on_names (t.PrintQuery query day, tt))
  piece-query query day rows is answer = ap (layout query.first.schema) (answer ∙ ap (λ rows. ordinary_query day rows query) (rows_at-world day db) ∙ ap (λ w. ordinary_query day (named_rows w) query) (world.names day is))

module _ (f : Relation → List Fixed) where
  -- the layout of what is found
  pub layout-found : (o : Option (Held Relation)) (columns : List Column) (rel : Relation) → option_map (λ k. k.1) (option_map described o) ≡ Some columns → option_map (λ h. h.rows) o ≡ Some rel
      → layout columns (f rel) ≡ held_layout (option_map (made_of f) o)
  layout-found None columns rel e g = cc e
  layout-found (Some h) columns rel e g = ap₂ (λ cs r. layout cs (f r)) (sym (same_Some h.columns columns e)) (sym (same_Some h.rows rel g))

  -- nothing is laid out where no columns are known
  pub layout-unknown : (o : Option (Held Relation)) → option_map (λ k. k.1) (option_map described o) ≡ None → [] ≡ held_layout (option_map (made_of f) o)
  layout-unknown None e = refl
  layout-unknown (Some h) e = cc e

  -- and where no rows are
  pub layout-none : (o : Option (Held Relation)) → option_map (λ h. h.rows) o ≡ None → [] ≡ held_layout (option_map (made_of f) o)
  layout-none None e = refl
  layout-none (Some h) e = cc e

-- the records of names that are the same
pub names-within : (a b : List (Held ℕ)) → AreWithin a b → map (name_record {V = ℕ}) a ≡ map (name_record {V = ℕ}) b
names-within [] [] v = refl
names-within [] (m ∷ b) v = absurd v
names-within (h ∷ a) [] v = absurd v
names-within (h ∷ a) (m ∷ b) v = ap₂ (λ r rs. r ∷ rs) (ap₂ (λ n w. n ∷ what_word w ∷ []) v.0.name (ap (λ k. k.0) v.0.what)) (names-within a b v.1)

-- the records of names are those of what is made of them
pub names-made : {U V : Type 0} (f : U → V) (db : List (Held U)) → map (name_record {V = U}) db ≡ map (name_record {V = V}) (all_made_of f db)
names-made f [] = refl
names-made f (h ∷ hs) = ap (λ rs. name_record h ∷ rs) (names-made f hs)

-- TABLES writes the names of the database
pub piece-tables : (db files : List (Held Relation)) (before : List Effect) → IsWorldOf db files before → names_text db ≡ piece_of before (on_names (t.Tables, tt))
piece-tables db files before world = ap (λ rs. records ((codes "name" ∷ codes "what" ∷ []) ∷ rs)) (names-made length db ∙ names-within (sizes_at db) _ world.sizes)

-- any statement but these five writes nothing
pub others_write_nothing : (before : List Effect) (stmt : Typed) (of : IsOfNames stmt) → ((name : List ℕ) (day : ℤ) → ¬ (stmt ≡ t.PrintName name day)) → ((query : Query) (day : ℤ) → ¬ (stmt ≡ t.PrintQuery query day))
    → ¬ (stmt ≡ t.Tables) → ((query : Query) → ¬ (stmt ≡ t.Explain query)) → ((name : List ℕ) (day : ℤ) → ¬ (stmt ≡ t.Valid name day)) → piece_of before (on_names (stmt, of)) ≡ []
others_write_nothing before (t.PrintName name day) of name_no query_no tables_no explain_no valid_no = absurd (name_no name day refl)
others_write_nothing before (t.PrintQuery query day) of name_no query_no tables_no explain_no valid_no = absurd (query_no query day refl)
others_write_nothing before t.Tables of name_no query_no tables_no explain_no valid_no = absurd (tables_no refl)
others_write_nothing before (t.Explain query) of name_no query_no tables_no explain_no valid_no = absurd (explain_no query refl)
others_write_nothing before (t.Create name columns) of name_no query_no tables_no explain_no valid_no = refl
others_write_nothing before (t.Insert name rows) of name_no query_no tables_no explain_no valid_no = refl
others_write_nothing before (t.Delete name cond) of name_no query_no tables_no explain_no valid_no = refl
others_write_nothing before (t.Update name sets cond) of name_no query_no tables_no explain_no valid_no = refl
others_write_nothing before (t.Drop name) of name_no query_no tables_no explain_no valid_no = refl
others_write_nothing before (t.Keep name query) of name_no query_no tables_no explain_no valid_no = refl
others_write_nothing before (t.Save name file) of name_no query_no tables_no explain_no valid_no = absurd of
others_write_nothing before (t.OpenFile name file) of name_no query_no tables_no explain_no valid_no = absurd of
others_write_nothing before (t.ImportFile name file) of name_no query_no tables_no explain_no valid_no = absurd of
others_write_nothing before (t.Valid name day) of name_no query_no tables_no explain_no valid_no = absurd (valid_no name day refl)
others_write_nothing before (t.Live name query) of name_no query_no tables_no explain_no valid_no = refl
