-- Deltas: what a statement makes of the rows of a table, found once for the table and for all that follows it.
use Rattle.std.specs.Prelude.{◌≡◌, ◌≤◌, ◌++◌, not, ℕ, ℤ, Bool, List, Some, filter, length}
use Rattle.std.specs.List.{list_any}
use Rattle.std.specs.List.Sorted.{IsPermutation}
use Rattle.og_base.specs.Calendar.{IsRefDay}
use Rattle.og_value.specs.Order.{row_order}
use Rattle.og_value.specs.Values.{row_at}
use Rattle.og_value.specs.declared.schema.Column.{Column}
use Rattle.og_rel.specs.Relations.{relation_at}
use Rattle.og_rel.specs.Places.{ArePlaces, others_at}
use Rattle.og_query.specs.Conditions.{truth}
use Rattle.og_query.specs.Queries.{Fixed}
use Rattle.og_query.specs.declared.condition.Cond.{Cond}
use Rattle.og_db.specs.Database.{HaveKinds, IsTableOf, Relation, names_at}
use Rattle.og_db.specs.Held.{Held, changed_at, put_at, rows_of}
use Rattle.og_db.specs.Runs.{AreWithin, sizes_at}
use Rattle.og_db.specs.Statements.{OfNames, names_after, name_sizes_after}
use Rattle.og_db.specs.declared.delta.Delta.{Delta}

-- no test tells the rows of the one list from those of the other
abbrev pub IsAlike : List Fixed → List Fixed → Type 0
IsAlike xs ys = (p : Fixed → Bool) → list_any p xs ≡ list_any p ys

-- what a delta leaves of a relation: the rows that it does not touch, and what is left of the others
abbrev pub rest_of : Delta → Relation → Relation
rest_of delta rel = others_at delta.at.items rel ++ delta.left

-- what comes of the relation: that, and the new rows
abbrev pub rows_after : Delta → Relation → Relation
rows_after delta rel = rest_of delta rel ++ delta.added

-- a delta of a relation: it touches rows of it, and on each day these rows are what is left of the relation and what is gone of it
pub record IsDeltaOf (rel : Relation) (delta : Delta) : Type 0 where
  pub at : ArePlaces delta.at.items (length rel)
  pub gone : (d : ℤ) → IsRefDay d → IsAlike (relation_at row_order row_at rel d) (relation_at row_order row_at (rest_of delta rel) d ++ relation_at row_order row_at delta.gone d)

-- a delta of a table, whose columns its rows fit
pub record IsDelta (db : List (Held Relation)) (name : List ℕ) (delta : Delta) : Type 0 where
  pub columns : List Column
  pub table : IsTableOf columns db name
  pub left : HaveKinds columns delta.left
  pub gone : HaveKinds columns delta.gone
  pub added : HaveKinds columns delta.added
  pub rows : (rel : Relation) → rows_of db name ≡ Some rel → IsDeltaOf rel delta

-- the names, where a table has what a delta leaves of it
abbrev pub rest_at : List ℕ → Delta → List (Held Relation) → List (Held Relation)
rest_at name delta db = changed_at name (rest_of delta) db

-- and where it has what comes of it
abbrev pub after_at : List ℕ → Delta → List (Held Relation) → List (Held Relation)
after_at name delta db = changed_at name (rows_after delta) db

-- a delta has been put into its table: this has what comes of it, in some order, and the other names are as they were
pub record IsApplied (name : List ℕ) (delta : Delta) (before after : List (Held Relation)) : Type 0 where
  pub rows : Relation
  pub put : after ≡ put_at name rows before
  pub order : (rel : Relation) → rows_of before name ≡ Some rel → IsPermutation rows (rows_after delta rel)

-- a delta does what a statement does: where it has been put into its table, the names are on each day those after the statement, with no more rows than their sizes
pub record DoesStatement (stmt : OfNames) (db : List (Held Relation)) (name : List ℕ) (delta : Delta) : Type 0 where
  pub law : (after : List (Held Relation)) → IsApplied name delta db after → (d : ℤ) → IsRefDay d → names_at d after ≡ names_after d (names_at d db) stmt
  pub size : (after : List (Held Relation)) → IsApplied name delta db after → AreWithin (sizes_at after) (name_sizes_after (sizes_at db) stmt)

-- a delta takes out of a relation the rows of which a condition holds, on each day on which it does, and adds none
pub record TakesOut (cond : Cond) (rel : Relation) (delta : Delta) : Type 0 where
  pub at : ArePlaces delta.at.items (length rel)
  pub rest : (d : ℤ) → IsRefDay d → relation_at row_order row_at (rest_of delta rel) d ≡ filter (λ row. not (truth d row cond)) (relation_at row_order row_at rel d)
  pub gone : (d : ℤ) → IsRefDay d → relation_at row_order row_at delta.gone d ≡ filter (λ row. truth d row cond) (relation_at row_order row_at rel d)
  pub left_size : length delta.left ≤ length delta.at.items
  pub gone_size : length delta.gone ≤ length delta.at.items
