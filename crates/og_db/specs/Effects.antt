-- The ordinary engine: what each statement makes of the names and of the files that were saved, and how many rows there are at most.
use Rattle.std.specs.Prelude.{◌++◌, ℕ, ℤ, List, [], ◌∷◌, Option, Some, None, length, fold}
use Rattle.og_value.specs.Order.{row_order}
use Rattle.og_value.specs.Values.{row_at}
use Rattle.og_value.specs.declared.kind.What.TheVariants as what
use Rattle.og_value.specs.declared.schema.Column.{Column}
use Rattle.og_value.specs.declared.value.Value.{Value}
use Rattle.og_rel.specs.Relations.{relation_at}
use Rattle.og_query.specs.Queries.{Fixed, ordinary_query}
use Rattle.og_query.specs.Sizes.{query_size}
use Rattle.og_query.specs.declared.typed.Typed.TheVariants as t
use Rattle.og_db.specs.Held.{Held, found}
use Rattle.og_db.specs.Database.{Relation}
use Rattle.og_db.specs.Live.{Live, live_after, followed}
use Rattle.og_db.specs.Statements.{Names, OfNames, named_rows, named_sizes, names_after, name_sizes_after}

-- what a statement does
pub data Effect : Type 0 where
  -- it acts on names alone
  on_names : OfNames → Effect
  -- SAVE of the name to the file
  saved : List ℕ → List ℕ → Effect
  -- OPEN, under the name, of a file that was saved before
  reopened : List ℕ → List ℕ → Effect
  -- OPEN, under the name, of another file, which has these columns and these rows on their days
  opened : List ℕ → List Column → Relation → Effect
  -- IMPORT, into the table, of a file that has these rows
  imported : List ℕ → List (List Value) → Effect

-- the names, and the files that were saved, the last one first, each with its columns and what it holds; and the queries of the live names
pub record Store (V : Type 0) : Type 0 where
  pub names : List (Held V)
  pub files : List (Held V)
  pub live : List Live

-- a kept result of that name, with the columns and the rows of another
abbrev pub kept_as : {V : Type 0} → List ℕ → Held V → Held V
kept_as name h = record { name = name; what = what.Kept; columns = h.columns; rows = h.rows }

-- the files with one more, which holds what there is of a name
abbrev pub with_file : {V : Type 0} → List ℕ → Option (Held V) → List (Held V) → List (Held V)
with_file file None files = files
with_file file (Some h) files = kept_as file h ∷ files

-- the names with a kept result more, which holds what there is of a file
abbrev pub with_name : {V : Type 0} → List ℕ → Option (Held V) → List (Held V) → List (Held V)
with_name name None names = names
with_name name (Some h) names = names ++ kept_as name h ∷ []

-- a world: names and saved files on one day, each with its rows
abbrev pub World : Type 0
World = Store (List Fixed)

-- the names of one day after a statement that acts on names alone, where some are live
abbrev pub statement_names : ℤ → List Live → Names → OfNames → Names
statement_names d live names stmt = followed (λ after. ordinary_query d (named_rows after)) live stmt.0 (names_after d names stmt)

-- ordinary statement: the world after it
abbrev pub ordinary_statement : ℤ → World → Effect → World
ordinary_statement d world (on_names stmt) =
    record { names = statement_names d world.live world.names stmt; files = world.files; live = live_after world.live stmt.0 }
ordinary_statement d world (saved name file) =
    record { names = world.names; files = with_file file (found world.names name) world.files; live = world.live }
ordinary_statement d world (reopened name file) =
    record { names = with_name name (found world.files file) world.names; files = world.files; live = world.live }
ordinary_statement d world (opened name columns rel) = record {
  names = world.names ++ record { name = name; what = what.Kept; columns = columns; rows = relation_at row_order row_at rel d } ∷ [];
  files = world.files;
  live = world.live;
}
ordinary_statement d world (imported name rows) =
    record { names = statement_names d world.live world.names (t.Insert name rows, tt); files = world.files; live = world.live }

-- world of a day: what statements make of the world without names and files
abbrev pub world_of_day : ℤ → List Effect → World
world_of_day d effects = fold (ordinary_statement d) (record { names = []; files = []; live = [] }) effects

-- size: how many rows each name has at most after a statement that acts on names alone, where some are live
abbrev pub statement_sizes : List Live → List (Held ℕ) → OfNames → List (Held ℕ)
statement_sizes live sizes stmt = followed (λ after. query_size (named_sizes after)) live stmt.0 (name_sizes_after sizes stmt)

-- size: how many rows each name and each saved file has at most after a statement, where it had at most so many before
abbrev pub size_after : Store ℕ → Effect → Store ℕ
size_after sizes (on_names stmt) =
    record { names = statement_sizes sizes.live sizes.names stmt; files = sizes.files; live = live_after sizes.live stmt.0 }
size_after sizes (saved name file) =
    record { names = sizes.names; files = with_file file (found sizes.names name) sizes.files; live = sizes.live }
size_after sizes (reopened name file) =
    record { names = with_name name (found sizes.files file) sizes.names; files = sizes.files; live = sizes.live }
size_after sizes (opened name columns rel) = record {
  names = sizes.names ++ record { name = name; what = what.Kept; columns = columns; rows = length rel } ∷ [];
  files = sizes.files;
  live = sizes.live;
}
size_after sizes (imported name rows) =
    record { names = statement_sizes sizes.live sizes.names (t.Insert name rows, tt); files = sizes.files; live = sizes.live }

-- size: how many rows each name and each saved file has at most after statements
abbrev pub sizes_after : List Effect → Store ℕ
sizes_after effects = fold size_after (record { names = []; files = []; live = [] }) effects
