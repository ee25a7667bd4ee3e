-- The groups of rows: numbers that are made of what is the same in rows which are equal on some day.
use Rattle.std.specs.Prelude.{ℕ, List, length, ◌+◌, ◌*◌, ◌%◌, ◌^◌, if◌then◌else◌}
use Rattle.std.specs.Int.{w64, cast_unsigned}
use Rattle.std.specs.List.{fold, list_all}
use Rattle.og_base.specs.declared.row.Groups.{Groups}
use Rattle.og_value.specs.Steady.{is_steady_value}
use Rattle.og_value.specs.declared.value.Value.{Value}
use Rattle.og_value.specs.declared.value.Value.TheVariants as v

-- a number of 64 bits into which another is mixed
unfoldable pub mixed : ℕ → ℕ → ℕ
mixed seed n = ((seed * 0x9e37_79b9_7f4a_7c15) % 2 ^ 64 + n) % 2 ^ 64

-- and a text: its bytes, and their number
abbrev pub text_mixed : ℕ → List ℕ → ℕ
text_mixed seed text = mixed (fold mixed seed text) (length text)

-- the loose digest of a value: all points have one, and all periods
abbrev pub loose_digest : ℕ → Value → ℕ
loose_digest seed (v.Int n) = mixed seed (cast_unsigned w64 n)
loose_digest seed (v.Text t) = text_mixed seed t
loose_digest seed (v.Point p) = mixed seed 1
loose_digest seed (v.Period i) = mixed seed 2

-- the whole digest of a value: that of a fixed point is made of its day, and that of a period of fixed points of both days
abbrev pub whole_digest : ℕ → Value → ℕ
whole_digest seed (v.Int n) = mixed seed (cast_unsigned w64 n)
whole_digest seed (v.Text t) = text_mixed seed t
whole_digest seed (v.Point p) = mixed seed (cast_unsigned w64 p.low)
whole_digest seed (v.Period i) = mixed (mixed seed (cast_unsigned w64 i.start.low)) (cast_unsigned w64 i.end.low)

-- the loose digest of a row
abbrev pub loose_row : ℕ → List Value → ℕ
loose_row seed vs = fold loose_digest seed vs

-- the whole digest of a row
abbrev pub whole_row : ℕ → List Value → ℕ
whole_row seed vs = fold whole_digest seed vs

-- the groups in which a steady row seeks: steady rows by all of their values, and others by their numbers and texts
abbrev pub steady_seeking : List Value → Groups
steady_seeking vs = record { first = loose_row 0 vs; second = whole_row 2 vs }

-- those in which another row seeks: others, and steady rows, by their numbers and texts
abbrev pub other_seeking : List Value → Groups
other_seeking vs = record { first = loose_row 0 vs; second = loose_row 1 vs }

-- the groups in which a steady row stands: for rows that are not steady, and for those that are
abbrev pub steady_standing : List Value → Groups
steady_standing vs = record { first = loose_row 1 vs; second = whole_row 2 vs }

-- the one in which another row stands
abbrev pub other_standing : List Value → Groups
other_standing vs = record { first = loose_row 0 vs; second = loose_row 0 vs }

-- the groups in which a row seeks those that are equal to it on some day
abbrev pub row_seeking : List Value → Groups
row_seeking vs = if list_all is_steady_value vs then steady_seeking vs else other_seeking vs

-- the groups in which a row stands
abbrev pub row_standing : List Value → Groups
row_standing vs = if list_all is_steady_value vs then steady_standing vs else other_standing vs
