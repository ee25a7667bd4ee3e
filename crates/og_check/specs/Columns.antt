-- Which column c or q.c stands for, in the words of the row that is in sight.
use Rattle.std.specs.Prelude.{◌≡◌, ◌⊎◌, ◌+◌, ◌++◌, ℕ, List, ◌∷◌, Option, Some, None, length, ⊤}
use Rattle.og_value.specs.declared.kind.Kind.{Kind}
use Rattle.og_value.specs.declared.schema.Column.{Column}
use Rattle.og_check.specs.Sight.{Item, Sight, joined}

-- the alias is q, where q.c is written
abbrev pub HasAlias : Option (List ℕ) → List ℕ → Type 0
HasAlias (Some table) alias = alias ≡ table
HasAlias None alias = ⊤

-- a column c of this kind stands at this place of the items' row, in an item of that alias
pub record IsNamed (items : List Item) (table : Option (List ℕ)) (name : List ℕ) (place : ℕ) (kind : Kind) : Type 0 where
  pub before : List Item
  pub alias : List ℕ
  pub first : List Column
  pub column : Column
  pub last : List Column
  pub after : List Item
  pub stands : items ≡ before ++ (alias, first ++ column ∷ last) ∷ after
  pub at : place ≡ length (joined before) + length first
  pub called : column.name ≡ name
  pub of_kind : column.kind ≡ kind
  pub of_item : HasAlias table alias

-- such a column stands there, and no other in the items' row
pub record IsOnly (items : List Item) (table : Option (List ℕ)) (name : List ℕ) (place : ℕ) (kind : Kind) : Type 0 where
  pub named : IsNamed items table name place kind
  pub alone : (other : ℕ) (another : Kind) → IsNamed items table name other another → other ≡ place

-- no such column stands in the items' row
abbrev pub IsAbsent : List Item → Option (List ℕ) → List ℕ → Type 0
IsAbsent items table name = (place : ℕ) (kind : Kind) → ¬ IsNamed items table name place kind

-- the inner column: the only one of the `sub`'s item, which stands behind the core's row
abbrev pub IsInner : Sight → Option (List ℕ) → List ℕ → ℕ → Kind → Type 0
IsInner sight table name place kind = (inner : ℕ) × (place ≡ length (joined sight.core) + inner) × IsOnly sight.sub table name inner kind

-- the outer column: the only one of the core's items, where the `sub`'s has none
abbrev pub IsOuter : Sight → Option (List ℕ) → List ℕ → ℕ → Kind → Type 0
IsOuter sight table name place kind = IsAbsent sight.sub table name × IsOnly sight.core table name place kind

-- c or q.c stands for the inner column or the outer one
abbrev pub StandsFor : Sight → Option (List ℕ) → List ℕ → ℕ → Kind → Type 0
StandsFor sight table name place kind = IsInner sight table name place kind ⊎ IsOuter sight table name place kind
