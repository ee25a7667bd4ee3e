-- What becomes of views where a table changes, and where a name goes.
use Rattle.std.specs.Prelude.{◌≡◌, ⊤, ℕ, Bool, true, false, not, List, [], ◌∷◌, None, filter, if◌then◌else◌}
use Rattle.og_query.specs.declared.typed.Typed.{Typed}
use Rattle.og_query.specs.declared.typed.Typed.TheVariants as t
use Rattle.og_db.specs.Database.{Relation}
use Rattle.og_db.specs.Deltas.{IsApplied}
use Rattle.og_db.specs.declared.delta.Delta.{Delta}
use Rattle.og_db.specs.Held.{Held}
use Rattle.og_db.specs.Live.{ends_with, kept_at}
use Rattle.og_view.specs.Views.{Seen, IsAnswerOver, to_be}
use Rattle.og_session.specs.Names.{Views}

-- ---- a table that changes

-- the statement changes the rows of a table
abbrev pub IsChange : Typed → Type 0
IsChange (t.Insert name rows) = ⊤
IsChange (t.Delete name cond) = ⊤
IsChange (t.Update name sets cond) = ⊤
IsChange _ = ⊥

-- the statement changes no rows of a table
abbrev pub IsNoChange : Typed → Type 0
IsNoChange stmt = ¬ IsChange stmt

-- the statement only writes: it acts on names, and no name or row changes
abbrev pub IsOnlyWritten : Typed → Type 0
IsOnlyWritten t.Tables = ⊤
IsOnlyWritten (t.PrintName name day) = ⊤
IsOnlyWritten (t.PrintQuery query day) = ⊤
IsOnlyWritten (t.Explain query) = ⊤
IsOnlyWritten (t.Valid name day) = ⊤
IsOnlyWritten _ = ⊥

-- the table that it changes
abbrev pub changed_name : Typed → List ℕ
changed_name (t.Insert name rows) = name
changed_name (t.Delete name cond) = name
changed_name (t.Update name sets cond) = name
changed_name _ = []

-- the same name, and a relation of the two views
abbrev pub IsPaired : (Seen → Seen → Type 0) → List ℕ × Seen → List ℕ × Seen → Type 0
IsPaired R old new = (new.0 ≡ old.0) × R old.1 new.1

-- a relation of each view of the one list and of the view of the other that has its place and its name
abbrev pub ArePaired : (Seen → Seen → Type 0) → Views → Views → Type 0
ArePaired R [] [] = ⊤
ArePaired R (v ∷ vs) (w ∷ ws) = IsPaired R v w × ArePaired R vs ws
ArePaired R [] (w ∷ ws) = ⊥
ArePaired R (v ∷ vs) [] = ⊥

-- the same query and result
pub record IsSame (old new : Seen) : Type 0 where
  pub query : new.query ≡ old.query
  pub result : new.result ≡ old.result

-- a view that has followed a delta: it is the same, and once the delta is in its table, what the result is to be is the answer
pub record Follows (db : List (Held Relation)) (name : List ℕ) (delta : Delta) (old new : Seen) : Type 0 where
  pub same : IsSame old new
  pub next : (after : List (Held Relation)) → IsApplied name delta db after → IsAnswerOver after old.query (to_be new)

-- a view that follows no more: its result is what it was to be, where all was done, and else what it was
pub record IsEnded (done : Bool) (old new : Seen) : Type 0 where
  pub query : new.query ≡ old.query
  pub next : new.next ≡ None
  pub put : done ≡ true → (tables : List (Held Relation)) → IsAnswerOver tables old.query (to_be old) → IsAnswerOver tables old.query new.result
  pub undone : done ≡ false → new.result ≡ old.result

-- ---- a name that goes

-- whether a view ends with the DROP of the name
abbrev pub view_ends : List ℕ → List ℕ × Seen → Bool
view_ends name v = ends_with name (record { name = v.0; query = v.1.query })

-- the views that do not end
abbrev pub lasting : List ℕ → Views → Views
lasting name views = filter (λ v. not (view_ends name v)) views

-- the database, where the name of a view that ends is a kept result
abbrev pub settle_one : List ℕ → List ℕ × Seen → List (Held Relation) → List (Held Relation)
settle_one name v db = if view_ends name v then kept_at v.0 v.1.result db else db

-- where those of all views that end are
abbrev pub settle_views : List ℕ → Views → List (Held Relation) → List (Held Relation)
settle_views name [] db = db
settle_views name (v ∷ vs) db = settle_one name v (settle_views name vs db)
