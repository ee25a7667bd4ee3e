-- What a database holds: named relations whose rows fit their columns.
use Rattle.std.specs.Prelude.{◌≡◌, ℕ, ℤ, List, Some}
use Rattle.std.specs.List.{All}
use Rattle.og_base.specs.Ranges.{Range}
use Rattle.og_value.specs.Order.{row_order}
use Rattle.og_value.specs.Values.{row_at}
use Rattle.og_value.specs.declared.kind.What.TheVariants as what
use Rattle.og_value.specs.declared.schema.Column.{Column}
use Rattle.og_value.specs.declared.value.Value.{Value}
use Rattle.og_query.specs.Fits.{IsFitRow}
use Rattle.og_rel.specs.Relations.{relation_at}
use Rattle.og_db.specs.Held.{Held, rows_of, known_of, all_made_of}
use Rattle.og_db.specs.Statements.{Names}

-- a relation: rows with the days on which they are present
abbrev pub Relation : Type 0
Relation = List (List Value × List Range)

-- the rows of a relation fit the columns
abbrev pub HaveKinds : List Column → Relation → Type 0
HaveKinds columns rel = All (λ p. IsFitRow columns p.0) rel

-- the names on one day that named relations stand for
abbrev pub names_at : ℤ → List (Held Relation) → Names
names_at d db = all_made_of (λ rel. relation_at row_order row_at rel d) db

-- a table of these columns is held under the name
abbrev pub IsTableOf : List Column → List (Held Relation) → List ℕ → Type 0
IsTableOf columns db name = known_of db name ≡ Some (what.Table, columns)

-- a live result of these columns is held under the name
abbrev pub IsLiveOf : List Column → List (Held Relation) → List ℕ → Type 0
IsLiveOf columns db name = known_of db name ≡ Some (what.Live, columns)

-- all names but that one have the relation that they had
abbrev pub AreKept : List ℕ → List (Held Relation) → List (Held Relation) → Type 0
AreKept name old new = (other : List ℕ) → ¬ (other ≡ name) → rows_of new other ≡ rows_of old other
