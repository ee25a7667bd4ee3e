-- Where one point is before another: on the days before one day, and on the days after another.
use Rattle.std.specs.Prelude.{ℤ, int_lt, if◌then◌else◌}
use Rattle.og_base.specs.Calendar.{before_all, after_all}

-- the low ends a and c part the points on the days before this one: c where a is before c, and no day otherwise
abbrev pub parted_before : ℤ → ℤ → ℤ
parted_before a c = if int_lt a c then c else before_all

-- the high ends b and e part the points on the days after this one: b where b is before e, and no day otherwise
abbrev pub parted_after : ℤ → ℤ → ℤ
parted_after b e = if int_lt b e then b else after_all
