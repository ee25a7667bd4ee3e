-- What a run holds between statements: all names, the live ones with the results of their views.
use Rattle.std.specs.Prelude.{◌≡◌, ◌++◌, ℕ, List, [], ◌∷◌, Option, Some, None, map}
use Rattle.std.specs.List.{All}
use Rattle.std.specs.Map.{lookup}
use Rattle.std.specs.Str.{bytes_eq}
use Rattle.og_value.specs.declared.kind.What.TheVariants as what
use Rattle.og_db.specs.Database.{Relation}
use Rattle.og_db.specs.Effects.{Effect}
use Rattle.og_db.specs.Held.{Held, known_of, rows_of, made_of}
use Rattle.og_db.specs.Live.{Live}
use Rattle.og_db.specs.Runs.{IsWorldOf, live_of}
use Rattle.og_view.specs.Views.{Seen, IsAnswerOver}

-- the views, each under its live name
abbrev pub Views : Type 0
Views = List (List ℕ × Seen)

-- the same name, with the result of its view where it has one
abbrev pub shown : Option Seen → Held Relation → Held Relation
shown None h = h
shown (Some view) h = made_of (λ _. view.result) h

-- the same names, where each that has a view has its result
abbrev pub with_views : Views → List (Held Relation) → List (Held Relation)
with_views views db = map (λ h. shown (lookup (bytes_eq h.name) views) h) db

-- the live results that have views
abbrev pub lives_of : Views → List Live
lives_of views = map (λ v. record { name = v.0; query = v.1.query }) views

-- what a run holds: all names, and the views
pub record Watched : Type 0 where
  pub names : List (Held Relation)
  pub views : Views

-- a database without rows for its live names, and their views
abbrev pub watched : List (Held Relation) → Views → Watched
watched db views = record { names = with_views views db; views = views }

-- a view has a live name in the database, which has its columns and no rows there; it follows nothing, and its result is the answer of its query over the database
pub record IsLiveView (db : List (Held Relation)) (v : List ℕ × Seen) : Type 0 where
  pub known : known_of db v.0 ≡ Some (what.Live, v.1.query.first.schema)
  pub rows : rows_of db v.0 ≡ Some []
  pub settled : v.1.next ≡ None
  pub answer : IsAnswerOver db v.1.query v.1.result

-- each view does
abbrev pub AreLiveViews : List (Held Relation) → Views → Type 0
AreLiveViews db views = All (IsLiveView db) views

-- what is held after statements: on each day the names and the saved files are the world of that day, and the views are those of the live results
pub record IsRunning (held : Watched) (files : List (Held Relation)) (effects : List Effect) : Type 0 where
  pub world : IsWorldOf held.names files effects
  pub live : live_of effects ≡ lives_of held.views

-- what is held then is what is held after one statement more
abbrev pub IsDone : Watched → Watched → Effect → Type 0
IsDone old new effect = (files : List (Held Relation)) (effects : List Effect) → IsRunning old files effects → IsRunning new files (effects ++ effect ∷ [])
