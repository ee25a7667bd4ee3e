-- The columns that an expression sees.
use Rattle.std.specs.Prelude.{◌+◌, ◌≤◌, ◌++◌, ℕ, Bool, true, List, [], ◌∷◌, Option, Some, None, Err, length, codes, if◌then◌else◌}
use Rattle.std.specs.List.{flat_map}
use Rattle.std.specs.Str.{bytes_eq}
use Rattle.og_value.specs.declared.kind.Kind.{Kind}
use Rattle.og_value.specs.declared.schema.Column.{Column}
use Rattle.og_check.specs.declared.refusal.CheckRefusal.TheVariants as r
use Rattle.og_check.specs.Limits.{max_tables}
use Rattle.og_check.specs.Steps.{Checked, pure}

-- an item of FROM: its alias and its columns
abbrev pub Item : Type 0
Item = List ℕ × List Column

-- what is in sight: the items of the core, and that of a `sub`, where the expression stands in one
pub record Sight : Type 0 where
  pub core : List Item
  pub sub : List Item

-- no more items than may stand, in each of the two
pub record IsSight (sight : Sight) : Type 0 where
  pub core : length sight.core ≤ max_tables
  pub sub : length sight.sub ≤ max_tables

-- a column that was found: its place in the row, and its kind
abbrev pub Found : Type 0
Found = ℕ × Kind

-- the columns of items, one after the other
abbrev pub joined : List Item → List Column
joined items = flat_map (λ item. item.1) items

-- the columns of that name, where the first one has that place
abbrev pub named : List ℕ → ℕ → List Column → List Found
named name place [] = []
named name place (c ∷ cs) = if bytes_eq c.name name then (place, c.kind) ∷ named name (place + 1) cs else named name (place + 1) cs

-- whether c or q.c looks at an item: c at each, and q.c at the one with that alias
abbrev pub looks_at : Option (List ℕ) → Item → Bool
looks_at (Some table) item = bytes_eq item.0 table
looks_at None item = true

-- the columns that c or q.c may stand for among items, where the first item's first column has that place
abbrev pub among : Option (List ℕ) → List ℕ → ℕ → List Item → List Found
among table name place [] = []
among table name place (item ∷ items) =
    (if looks_at table item then named name place item.1 else []) ++ among table name (place + length item.1) items

-- the first list, or the second where it is empty
abbrev pub or_else : List Found → List Found → List Found
or_else [] second = second
or_else first second = first

-- the one that was found
abbrev pub one_of : List ℕ → List Found → Checked Found
one_of name [] = Err (r.NoSuchColumn name)
one_of name (x ∷ []) = pure x
one_of name (x ∷ y ∷ more) = Err (r.AmbiguousColumn name)

-- a column as it is written: c, or q.c
abbrev pub written : Option (List ℕ) → List ℕ → List ℕ
written (Some table) name = table ++ codes "." ++ name
written None name = name

-- the columns that c or q.c may stand for: those of the item of the `sub`, and only where that has none, those of the core
abbrev pub candidates : Sight → Option (List ℕ) → List ℕ → List Found
candidates sight table name = or_else (among table name (length (joined sight.core)) sight.sub) (among table name 0 sight.core)

-- the column that c or q.c stands for
abbrev pub found : Sight → Option (List ℕ) → List ℕ → Checked Found
found sight table name = one_of (written table name) (candidates sight table name)
