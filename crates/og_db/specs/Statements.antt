-- The ordinary engine over names: what a statement makes of named sets of rows of one day, and how many rows there are at most.
use Rattle.std.specs.Prelude.{◌+◌, ◌*◌, ◌++◌, not, ⊤, ℕ, ℤ, List, [], ◌∷◌, Option, Some, None, length, map, filter, fold, set, if◌then◌else◌}
use Rattle.og_base.specs.Set.{set_of}
use Rattle.og_value.specs.Order.{row_order}
use Rattle.og_value.specs.Values.{row_at}
use Rattle.og_value.specs.declared.kind.What.TheVariants as what
use Rattle.og_query.specs.Conditions.{truth}
use Rattle.og_query.specs.Expressions.{meaning}
use Rattle.og_query.specs.Queries.{Fixed, Named, ordinary_query}
use Rattle.og_query.specs.Sizes.{Sizes, query_size}
use Rattle.og_query.specs.declared.typed.Assign.{Assign}
use Rattle.og_query.specs.declared.typed.Typed.{Typed}
use Rattle.og_query.specs.declared.typed.Typed.TheVariants as t
use Rattle.og_db.specs.Held.{Held, rows_of, changed_at, without}

-- the names on one day, each with its rows
abbrev pub Names : Type 0
Names = List (Held (List Fixed))

-- what there is, and else another thing
abbrev pub or_else : {V : Type 0} → V → Option V → V
or_else other (Some v) = v
or_else other None = other

-- the rows of each name on that day; an unknown name has none
abbrev pub named_rows : Names → Named
named_rows names name = or_else [] (rows_of names name)

-- the row with the new values of the assignments, each computed from the old row
abbrev pub assigned : ℤ → List Assign → Fixed → Fixed
assigned d sets row = fold (λ new one. set new one.column (meaning d row one.expr)) row sets

-- a statement acts on names alone: all do but those of files
abbrev pub IsOfNames : Typed → Type 0
IsOfNames (t.Create name columns) = ⊤
IsOfNames (t.Insert name tuples) = ⊤
IsOfNames (t.Delete name cond) = ⊤
IsOfNames (t.Update name sets cond) = ⊤
IsOfNames (t.Drop name) = ⊤
IsOfNames t.Tables = ⊤
IsOfNames (t.Keep name query) = ⊤
IsOfNames (t.PrintName name day) = ⊤
IsOfNames (t.PrintQuery query day) = ⊤
IsOfNames (t.Save name file) = ⊥
IsOfNames (t.OpenFile name file) = ⊥
IsOfNames (t.ImportFile name file) = ⊥
IsOfNames (t.Explain query) = ⊤
IsOfNames (t.Valid name day) = ⊤
IsOfNames (t.Live name query) = ⊤

-- a statement that acts on names alone
abbrev pub OfNames : Type 0
OfNames = (stmt : Typed) × IsOfNames stmt

-- the names after a statement that acts on names alone; what becomes of live results stands in Effects
abbrev pub names_after : ℤ → Names → OfNames → Names
names_after d names (t.Create name columns, of) = names ++ record { name = name; what = what.Table; columns = columns; rows = [] } ∷ []
names_after d names (t.Insert name tuples, of) = changed_at name (λ rows. set_of row_order (rows ++ map (λ tuple. row_at tuple d) tuples)) names
names_after d names (t.Delete name cond, of) = changed_at name (filter (λ row. not (truth d row cond))) names
names_after d names (t.Update name sets cond, of) =
    changed_at name (λ rows. set_of row_order (map (λ row. if truth d row cond then assigned d sets row else row) rows)) names
names_after d names (t.Drop name, of) = without name names
names_after d names (t.Keep name query, of) =
    names ++ record { name = name; what = what.Kept; columns = query.first.schema; rows = ordinary_query d (named_rows names) query } ∷ []
names_after d names (t.Tables, of) = names
names_after d names (t.PrintName name day, of) = names
names_after d names (t.PrintQuery query day, of) = names
names_after d names (t.Explain query, of) = names
names_after d names (t.Valid name day, of) = names
names_after d names (t.Save name file, of) = absurd of
names_after d names (t.OpenFile name file, of) = absurd of
names_after d names (t.ImportFile name file, of) = absurd of
names_after d names (t.Live name query, of) =
    names ++ record { name = name; what = what.Live; columns = query.first.schema; rows = ordinary_query d (named_rows names) query } ∷ []

-- how many rows each name has; an unknown name has none
abbrev pub named_sizes : List (Held ℕ) → Sizes
named_sizes held name = or_else 0 (rows_of held name)

-- how many rows each name has at most after a statement that acts on names alone, where it had at most so many before; live results as above
abbrev pub name_sizes_after : List (Held ℕ) → OfNames → List (Held ℕ)
name_sizes_after sizes (t.Create name columns, of) = sizes ++ record { name = name; what = what.Table; columns = columns; rows = 0 } ∷ []
name_sizes_after sizes (t.Insert name tuples, of) = changed_at name (λ n. n + length tuples) sizes
name_sizes_after sizes (t.Delete name cond, of) = sizes
name_sizes_after sizes (t.Update name sets cond, of) = changed_at name (λ n. 2 * n) sizes
name_sizes_after sizes (t.Drop name, of) = without name sizes
name_sizes_after sizes (t.Keep name query, of) = sizes ++ record { name = name; what = what.Kept; columns = query.first.schema; rows = query_size (named_sizes sizes) query } ∷ []
name_sizes_after sizes (t.Tables, of) = sizes
name_sizes_after sizes (t.PrintName name day, of) = sizes
name_sizes_after sizes (t.PrintQuery query day, of) = sizes
name_sizes_after sizes (t.Explain query, of) = sizes
name_sizes_after sizes (t.Valid name day, of) = sizes
name_sizes_after sizes (t.Save name file, of) = absurd of
name_sizes_after sizes (t.OpenFile name file, of) = absurd of
name_sizes_after sizes (t.ImportFile name file, of) = absurd of
name_sizes_after sizes (t.Live name query, of) = sizes ++ record { name = name; what = what.Live; columns = query.first.schema; rows = query_size (named_sizes sizes) query } ∷ []
