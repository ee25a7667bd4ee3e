-- The join of a FROM item with those before it, by the parts that belong there.
use Rattle.std.specs.Prelude.{◌-◌, ◌&&◌, ℕ, nat_lt, nat_le, Bool, true, false, not, List, [], ◌∷◌, Option, Some, None, filter, slice_get, if◌then◌else◌}
use Rattle.std.specs.List.{flat_map}
use Rattle.std.specs.Option.{is_some}
use Rattle.og_value.specs.declared.kind.Kind.{Kind}
use Rattle.og_value.specs.declared.kind.Kind.TheVariants as kind
use Rattle.og_value.specs.declared.term.Cmp.TheVariants as cmp
use Rattle.og_value.specs.declared.term.Pred.TheVariants as pred
use Rattle.og_query.specs.declared.condition.Cond.{Cond, fold-Cond}
use Rattle.og_query.specs.declared.condition.Cond.TheOpen.{Cond-F, Compare, Relate}
use Rattle.og_plan.specs.declared.plan.ColPair.{ColPair}
use Rattle.og_plan.specs.declared.plan.Plan.{Plan}
use Rattle.og_plan.specs.declared.plan.Plan.TheVariants as p
use Rattle.og_plan.specs.Parts.{column_of}

-- the members of the values that there are
abbrev pub listed : {A : Type 0} → Option A → List A
listed (Some x) = x ∷ []
listed None = []

-- a column of an earlier item and one of the item whose columns begin at that place
abbrev pub across : ℕ → Option ℕ → Option ℕ → Option ColPair
across start (Some a) (Some b) =
    if nat_lt a start && nat_le start b then Some (record { left = a; right = b - start })
    else (if nat_lt b start && nat_le start a then Some (record { left = b; right = a - start })
    else None)
across start _ _ = None

-- both kinds are INT, or both are TEXT
abbrev pub are_key_kinds : Option Kind → Option Kind → Bool
are_key_kinds (Some kind.Int) (Some kind.Int) = true
are_key_kinds (Some kind.Text) (Some kind.Text) = true
are_key_kinds _ _ = false

-- the kind of the column at a place, where there is one
abbrev pub kind_at : List Kind → Option ℕ → Option Kind
kind_at kinds (Some place) = slice_get kinds place
kind_at kinds None = None

-- the columns of a comparison for equality that are a key of the join
abbrev pub key_step : List Kind → ℕ → Cond-F (Option ColPair) → Option ColPair
key_step kinds start (Compare cmp.Eq left right) =
    if are_key_kinds (kind_at kinds (column_of left)) (kind_at kinds (column_of right)) then across start (column_of left) (column_of right) else None
key_step kinds start _ = None

-- the columns of an equal part: both INT or both TEXT, one of the item and one of an earlier item
abbrev pub key_of : List Kind → ℕ → Cond → Option ColPair
key_of kinds start = fold-Cond (Option ColPair) (key_step kinds start)

-- the columns of one predicate OVERLAPS
abbrev pub overlap_step : ℕ → Cond-F (Option ColPair) → Option ColPair
overlap_step start (Relate pred.Overlaps left right) = across start (column_of left) (column_of right)
overlap_step start _ = None

-- the columns of a part that says OVERLAPS, one of the item and one of an earlier item
abbrev pub overlap_of : ℕ → Cond → Option ColPair
overlap_of start = fold-Cond (Option ColPair) (overlap_step start)

-- the parts as a filter, where there are any
abbrev pub filtered : Plan → List Cond → Plan
filtered input [] = input
filtered input (part ∷ parts) = p.Filter input (part ∷ parts)

-- a join on the first pair of periods, where there is one, with all parts as its rest; otherwise the filtered product
abbrev pub overlap_joined : Plan → Plan → List ColPair → List Cond → Plan
overlap_joined left right [] parts = filtered (p.Product left right) parts
overlap_joined left right (pair ∷ pairs) parts = p.OverlapJoin left right pair parts

-- a join on all keys, where there are any, with the other parts as its rest
abbrev pub key_joined : Plan → Plan → List ColPair → List Cond → Plan → Plan
key_joined left right [] rest other = other
key_joined left right (pair ∷ pairs) rest other = p.KeyJoin left right (pair ∷ pairs) rest

-- the join: on its keys, else on its first overlapping periods, else a filtered product
abbrev pub joined_by : List Kind → ℕ → Plan → Plan → List Cond → Plan
joined_by kinds start left right parts =
    key_joined left right (flat_map (λ part. listed (key_of kinds start part)) parts) (filter (λ part. not (is_some (key_of kinds start part))) parts)
    (overlap_joined left right (flat_map (λ part. listed (overlap_of start part)) parts) parts)
