-- Live results: names with a query, whose rows are at every moment those of the query.
use Rattle.std.specs.Prelude.{◌&&◌, ◌||◌, ◌++◌, not, ℕ, Bool, List, [], ◌∷◌, Option, Some, None, map, filter, is_some, if◌then◌else◌}
use Rattle.std.specs.List.{list_any}
use Rattle.std.specs.Str.{bytes_eq}
use Rattle.og_value.specs.declared.kind.What.TheVariants as what
use Rattle.og_query.specs.declared.query.Core.{Core}
use Rattle.og_query.specs.declared.query.Query.{Query}
use Rattle.og_query.specs.declared.typed.Typed.{Typed}
use Rattle.og_query.specs.declared.typed.Typed.TheVariants as t
use Rattle.og_db.specs.Held.{Held, made_of}

-- a live result: its name, and its query
pub record Live : Type 0 where
  pub name : List ℕ
  pub query : Query

-- whether some table of a core has that name, in FROM or in an EXISTS or NOT EXISTS
abbrev pub core_uses : Core → List ℕ → Bool
core_uses core name = list_any (λ table. bytes_eq name table.name) core.tables || list_any (λ semi. bytes_eq name semi.table.name) core.semis

-- whether a query names a table: some table of some core has that name
abbrev pub uses : Query → List ℕ → Bool
uses query name = core_uses query.first name || list_any (λ rest. core_uses rest.core name) query.rest

-- whether a live result ends with the DROP of a name: it has that name, or its query names it
abbrev pub ends_with : List ℕ → Live → Bool
ends_with name l = bytes_eq name l.name || uses l.query name

-- the live results after a statement: LIVE adds one, and DROP of a name takes out the one of that name and those whose query names it
abbrev pub live_after : List Live → Typed → List Live
live_after live (t.Create name columns) = live
live_after live (t.Insert name tuples) = live
live_after live (t.Delete name cond) = live
live_after live (t.Update name sets cond) = live
live_after live (t.Drop name) = filter (λ l. not (ends_with name l)) live
live_after live t.Tables = live
live_after live (t.Keep name query) = live
live_after live (t.PrintName name day) = live
live_after live (t.PrintQuery query day) = live
live_after live (t.Save name file) = live
live_after live (t.OpenFile name file) = live
live_after live (t.ImportFile name file) = live
live_after live (t.Explain query) = live
live_after live (t.Valid name day) = live
live_after live (t.Live name query) = live ++ record { name = name; query = query } ∷ []

-- the query of a live name
abbrev pub query_of : List Live → List ℕ → Option Query
query_of [] name = None
query_of (l ∷ live) name = if bytes_eq name l.name then Some l.query else query_of live name

-- the same name, as a kept result with these rows
abbrev pub kept_with : {V : Type 0} → V → Held V → Held V
kept_with rows h = record { name = h.name; what = what.Kept; columns = h.columns; rows = rows }

-- the same names, where that one is a kept result with these rows
abbrev pub kept_at : {V : Type 0} → List ℕ → V → List (Held V) → List (Held V)
kept_at name rows hs = map (λ h. if bytes_eq name h.name then kept_with rows h else h) hs

-- whether a name is live in the first and no more in the second
abbrev pub has_ended : List Live → List Live → List ℕ → Bool
has_ended before after name = is_some (query_of before name) && not (is_some (query_of after name))

-- the same names, of which those that are live no more are kept results; their rows stay
abbrev pub settled : {V : Type 0} → List Live → List Live → List (Held V) → List (Held V)
settled before after hs = map (λ h. if has_ended before after h.name then kept_with h.rows h else h) hs

-- the same name, with what its query answers where it has one
abbrev pub answered : {V : Type 0} → (Query → V) → Option Query → Held V → Held V
answered answer None h = h
answered answer (Some query) h = made_of (λ _. answer query) h

-- the same names, where each live one has what its query answers
abbrev pub refreshed : {V : Type 0} → (Query → V) → List Live → List (Held V) → List (Held V)
refreshed answer live hs = map (λ h. answered answer (query_of live h.name) h) hs

-- the names that a statement leaves, where some were live before it: those that are so no more are kept results,
-- and the others have what their queries answer over these names
abbrev pub followed : {V : Type 0} → (List (Held V) → Query → V) → List Live → Typed → List (Held V) → List (Held V)
followed answer live stmt after = refreshed (answer after) (live_after live stmt) (settled live (live_after live stmt) after)
