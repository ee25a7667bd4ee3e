-- Views: what they hold, and the names that their queries use.
use Rattle.std.proofs.Common.{◌≡◌, ◌||◌, ℕ, Bool, true, false, List, [], ◌∷◌, Option, None, Some, refl, sym, ap, ◌∙◌, true≢false}
use Rattle.std.specs.Cmp.Lexicographic.{same_text}
use Rattle.std.specs.List.{AllByRecursion, list_any}
use Rattle.std.specs.Str.{bytes_eq}
use Rattle.std.proofs.lemmas.List.Elements.{recursion_from_All}
use Rattle.og_value.specs.declared.kind.Kind.{Kind}
use Rattle.og_value.specs.declared.schema.Column.{Column}
use Rattle.og_query.specs.Fits.{Schemas, core_kinds, IsAsNamed, IsFitSemi, IsFitCore, IsFitRest, IsFitQuery}
use Rattle.og_query.specs.declared.query.Core.{Core}
use Rattle.og_query.specs.declared.query.From1.{From1}
use Rattle.og_query.specs.declared.query.Query.{Query}
use Rattle.og_query.specs.declared.query.Rest.{Rest}
use Rattle.og_query.specs.declared.query.Semi.{Semi}
use Rattle.og_db.specs.Database.{Relation}
use Rattle.og_db.specs.Live.{core_uses, uses}
use Rattle.og_view.specs.Changes.{next_of, result_of}
use Rattle.og_view.specs.declared.change.Next.{Next}
use Rattle.og_view.specs.declared.change.Next.TheVariants as next

module _ (schemas : Schemas) (name : List ℕ) where
  -- the name has columns
  abbrev HasColumns : Type 0
  HasColumns = (columns : List Column) × (schemas name ≡ Some columns)

  -- a name in FROM of tables that have their names has columns
  in_tables : (tables : List From1) → AllByRecursion (IsAsNamed schemas) tables → list_any (λ table. bytes_eq name table.name) tables ≡ true → HasColumns
  in_tables [] all there = absurd (true≢false (sym there))
  in_tables (table ∷ tables) all there = at (bytes_eq name table.name) refl there (in_tables tables all.1)
    where
      at : (b : Bool) → bytes_eq name table.name ≡ b → (b || list_any (λ table. bytes_eq name table.name) tables) ≡ true
          → (list_any (λ table. bytes_eq name table.name) tables ≡ true → HasColumns) → HasColumns
      at true here there more = (table.schema, ap schemas (same_text name table.name (sym here)) ∙ all.0)
      at false here there more = more there

  -- and so does one in EXISTS
  in_semis : (kinds : List Kind) (semis : List Semi) → AllByRecursion (IsFitSemi schemas kinds) semis → list_any (λ semi. bytes_eq name semi.table.name) semis ≡ true → HasColumns
  in_semis kinds [] all there = absurd (true≢false (sym there))
  in_semis kinds (semi ∷ semis) all there = at (bytes_eq name semi.table.name) refl there (in_semis kinds semis all.1)
    where
      at : (b : Bool) → bytes_eq name semi.table.name ≡ b → (b || list_any (λ semi. bytes_eq name semi.table.name) semis) ≡ true
          → (list_any (λ semi. bytes_eq name semi.table.name) semis ≡ true → HasColumns) → HasColumns
      at true here there more = (semi.table.schema, ap schemas (same_text name semi.table.name (sym here)) ∙ all.0.table)
      at false here there more = more there

  -- and one in a core
  in_core : (core : Core) → IsFitCore schemas core → core_uses core name ≡ true → HasColumns
  in_core core fit there = at (list_any (λ table. bytes_eq name table.name) core.tables) refl there
    where
      at : (b : Bool) → list_any (λ table. bytes_eq name table.name) core.tables ≡ b → (b || list_any (λ semi. bytes_eq name semi.table.name) core.semis) ≡ true → HasColumns
      at true here there = in_tables core.tables (recursion_from_All (IsAsNamed schemas) core.tables fit.tables) here
      at false here there = in_semis (core_kinds core) core.semis (recursion_from_All (IsFitSemi schemas (core_kinds core)) core.semis fit.semis) there

  -- and of further cores
  in_rest : (first : Core) (rests : List Rest) → AllByRecursion (IsFitRest schemas first) rests → list_any (λ rest. core_uses rest.core name) rests ≡ true → HasColumns
  in_rest first [] all there = absurd (true≢false (sym there))
  in_rest first (rest ∷ rests) all there = at (core_uses rest.core name) refl there (in_rest first rests all.1)
    where
      at : (b : Bool) → core_uses rest.core name ≡ b → (b || list_any (λ rest. core_uses rest.core name) rests) ≡ true
          → (list_any (λ rest. core_uses rest.core name) rests ≡ true → HasColumns) → HasColumns
      at true here there more = in_core rest.core all.0.core here
      at false here there more = more there

  -- a name that a query uses has columns, where the query fits
  pub used_has_columns : (query : Query) → IsFitQuery schemas query → uses query name ≡ true → HasColumns
  used_has_columns query fit there = at (core_uses query.first name) refl there
    where
      at : (b : Bool) → core_uses query.first name ≡ b → (b || list_any (λ rest. core_uses rest.core name) query.rest) ≡ true → HasColumns
      at true here there = in_core query.first fit.first here
      at false here there = in_rest query.first query.rest (recursion_from_All (IsFitRest schemas query.first) query.rest fit.rest) there

-- where nothing is followed, the rows that are held are the result
pub held_alone : (held : Relation) (next : Option Next) → next_of held next ≡ None → held ≡ result_of held next
held_alone held None none = refl
held_alone held (Some (next.Changed at len)) none = cc
held_alone held (Some (next.Renewed rel)) none = cc
