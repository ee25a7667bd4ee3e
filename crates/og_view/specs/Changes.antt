-- Changes of the result of a view, and the relations that it holds for them.
use Rattle.std.specs.Prelude.{◌≡◌, ◌≤◌, ◌++◌, ⊤, ℤ, List, Option, None, Some, length, take}
use Rattle.og_base.specs.Calendar.{IsRefDay}
use Rattle.og_exec.specs.Tables.{rows_at, rows_on}
use Rattle.og_query.specs.Queries.{ordinary_query}
use Rattle.og_query.specs.declared.query.Query.{Query}
use Rattle.og_db.specs.Database.{Relation}
use Rattle.og_db.specs.Held.{Held, rows_of}
use Rattle.og_rel.specs.Places.{ArePlaces, others_at}
use Rattle.og_view.specs.declared.change.Change.{Change}
use Rattle.og_view.specs.declared.change.Next.{Next}
use Rattle.og_view.specs.declared.change.Next.TheVariants as next

-- what a change makes of a result: the rows at its places go, and its rows come
abbrev pub changed_by : Change → Relation → Relation
changed_by change result = others_at change.at.items result ++ change.rows

-- a change of a result: on each day it makes of it the answer of a query over tables
pub record IsChange (tables : List (Held Relation)) (query : Query) (result : Relation) (change : Change) : Type 0 where
  pub at : ArePlaces change.at.items (length result)
  pub law : (d : ℤ) → IsRefDay d → ordinary_query d (rows_at (rows_of tables) d) query ≡ rows_on (changed_by change result) d

-- the result as it is, of the rows that are held: those that are to come stand behind it
abbrev pub result_of : Relation → Option Next → Relation
result_of held None = held
result_of held (Some (next.Changed at len)) = take len held
result_of held (Some (next.Renewed rel)) = held

-- the result as it is to be
abbrev pub next_of : Relation → Option Next → Option Relation
next_of held None = None
next_of held (Some (next.Changed at len)) = Some (others_at at.items held)
next_of held (Some (next.Renewed rel)) = Some rel

-- the places of rows that are to go are places of the result
abbrev pub IsHeldFor : Relation → Option Next → Type 0
IsHeldFor held None = ⊤
IsHeldFor held (Some (next.Changed at len)) = ArePlaces at.items len × (len ≤ length held)
IsHeldFor held (Some (next.Renewed rel)) = ⊤
