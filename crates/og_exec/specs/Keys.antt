-- The keys of joins on columns.
use Rattle.std.specs.Prelude.{ℕ, Bool, true, false, List, map, if◌then◌else◌}
use Rattle.std.specs.Ordering.{eq_by_cmp}
use Rattle.og_value.specs.Order.{row_order}
use Rattle.og_value.specs.declared.value.FixedValue.{FixedValue}
use Rattle.og_value.specs.declared.value.FixedValue.TheVariants as f
use Rattle.og_query.specs.Expressions.{no_value}
use Rattle.og_query.specs.Queries.{Fixed}
use Rattle.og_plan.specs.Meaning.{column}
use Rattle.og_plan.specs.declared.plan.ColPair.{ColPair}

-- what a key has of a value: a number or a text itself, and the number 0 in place of what depends on the day
abbrev pub key_value : FixedValue → FixedValue
key_value (f.Int n) = f.Int n
key_value (f.Text t) = f.Text t
key_value (f.Date a) = no_value
key_value (f.Period p) = no_value

-- the place of the left column of a pair, or of the right one
abbrev pub place_in : Bool → ColPair → ℕ
place_in left pair = if left then pair.left else pair.right

-- the key of a left row, or of a right one: what it has of the value in each column
abbrev pub key : Bool → List ColPair → Fixed → Fixed
key left pairs row = map (λ pair. key_value (column row (place_in left pair))) pairs

-- a left and a right row have equal keys
abbrev pub have_one_key : List ColPair → Fixed → Fixed → Bool
have_one_key pairs left right = eq_by_cmp row_order (key true pairs left) (key false pairs right)
