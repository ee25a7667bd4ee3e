-- The entries of a database as the code holds them.
use Rattle.std.specs.Prelude.{ℕ, List}
use Rattle.std.specs.List.{All}
use Rattle.og_db.specs.declared.holding.Holding.{Holding}
use Rattle.og_db.specs.Held.{Held}
use Rattle.og_db.specs.Database.{Relation, HaveKinds}

-- an entry, as contracts see it
abbrev pub held_of : List ℕ × Holding → Held Relation
held_of e = record { name = e.0; what = e.1.what; columns = e.1.schema; rows = e.1.rel }

-- the rows of each entry fit its columns
abbrev pub AllFit : List (List ℕ × Holding) → Type 0
AllFit entries = All (λ e. HaveKinds e.1.schema e.1.rel) entries
