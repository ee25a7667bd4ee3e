-- The columns by which rows find those that they meet.
use Rattle.std.specs.Prelude.{◌==◌, ◌&&◌, ℕ, pos, Bool, true, false, List, [], ◌∷◌, Option, Some, None, length, slice_index_or, if◌then◌else◌}
use Rattle.std.specs.List.{fold, list_any}
use Rattle.std.specs.Option.{is_some}
use Rattle.og_base.specs.declared.row.Groups.{Groups}
use Rattle.og_value.specs.Groups.{loose_digest}
use Rattle.og_value.specs.declared.term.Cmp.TheVariants as cmp
use Rattle.og_value.specs.declared.value.Value.{Value}
use Rattle.og_value.specs.declared.value.Value.TheVariants as v
use Rattle.og_query.specs.declared.condition.Cond.{Cond, fold-Cond}
use Rattle.og_query.specs.declared.condition.Cond.TheOpen.{Cond-F, Compare}
use Rattle.og_plan.specs.Joins.{across}
use Rattle.og_plan.specs.Parts.{column_of}
use Rattle.og_plan.specs.declared.plan.ColPair.{ColPair}
use Rattle.og_exec.specs.Keys.{place_in}
use Rattle.og_exec.specs.Tables.{Relation}

-- the columns of one comparison for equality, one of the left row and one of the right
abbrev pub pair_step : ℕ → Cond-F (Option ColPair) → Option ColPair
pair_step width (Compare cmp.Eq left right) = across width (column_of left) (column_of right)
pair_step width _ = None

-- the columns that a part says are equal, one of the left row, which has so many values, and one of the right
abbrev pub pair_of : ℕ → Cond → Option ColPair
pair_of width = fold-Cond (Option ColPair) (pair_step width)

-- the value at a place, the number 0 where there is none
abbrev pub value_in : List Value → ℕ → Value
value_in row place = slice_index_or row place (v.Int (pos 0))

-- a number with the value at a place mixed in
abbrev pub mixed_at : List Value → ℕ → ℕ → ℕ
mixed_at row seed place = loose_digest seed (value_in row place)

-- a number with the value in the left column of a pair mixed in, or in the right one
abbrev pub mixed_pair : Bool → List Value → ℕ → Option ColPair → ℕ
mixed_pair left row seed (Some pair) = mixed_at row seed (place_in left pair)
mixed_pair left row seed None = seed

-- the digest of a left row, or of a right one: of the values in its columns that parts say are equal
abbrev pub digest : Bool → ℕ → List Cond → List Value → ℕ
digest left width parts row = fold (λ seed part. mixed_pair left row seed (pair_of width part)) 0 parts

-- the group with a number, twice
abbrev pub group : ℕ → Groups
group number = record { first = number; second = number }

-- the group that a left row seeks, where it has so many values and some part says that columns are equal
abbrev pub left_group : ℕ → List Cond → List Value → Option Groups
left_group width parts row =
    if (length row == width) && list_any (λ part. is_some (pair_of width part)) parts then Some (group (digest true width parts row)) else None

-- the group in which a right row stands
abbrev pub right_group : ℕ → List Cond → List Value → Groups
right_group width parts row = group (digest false width parts row)

-- how many values the first row has, 0 where there is none
abbrev pub first_width : Relation → ℕ
first_width [] = 0
first_width (p ∷ rel) = length p.0
