-- The operations on fixed values: extended days by their numbers, and fixed periods, which are pairs of them.
use Rattle.std.specs.Prelude.{ℤ, Bool, not, ◌&&◌, int_lt, int_le, if◌then◌else◌}
use Rattle.std.specs.Ordering.{int_eq}
use Rattle.og_base.specs.declared.range.FixedPeriod.{FixedPeriod}

-- LEAST: the lesser of two days, by number
abbrev pub least_of : ℤ → ℤ → ℤ
least_of a b = if int_lt b a then b else a

-- GREATEST: the greater of two days, by number
abbrev pub greatest_of : ℤ → ℤ → ℤ
greatest_of a b = if int_lt a b then b else a

-- START: the first part of the pair
abbrev pub start_of : FixedPeriod → ℤ
start_of a = a.start

-- END: the second part of the pair
abbrev pub end_of : FixedPeriod → ℤ
end_of a = a.end

-- PERIOD: the pair
abbrev pub period_of : ℤ → ℤ → FixedPeriod
period_of start end = record { start = start; end = end }

-- COMMON: from the greatest of the starts to the least of the ends
abbrev pub common_of : FixedPeriod → FixedPeriod → FixedPeriod
common_of a b = record { start = greatest_of a.start b.start; end = least_of a.end b.end }

-- EMPTY: the end is at most the start
abbrev pub is_empty_period : FixedPeriod → Bool
is_empty_period a = int_le a.end a.start

-- CONTAINS: the start is at most the day, and the day is before the end
abbrev pub contains_day : FixedPeriod → ℤ → Bool
contains_day a p = int_le a.start p && int_lt p a.end

-- both periods are nonempty, as each of the seven predicates asks
abbrev pub are_nonempty : FixedPeriod → FixedPeriod → Bool
are_nonempty a b = not (is_empty_period a) && not (is_empty_period b)

-- BEFORE: the first ends at most where the second starts
abbrev pub is_before : FixedPeriod → FixedPeriod → Bool
is_before a b = are_nonempty a b && int_le a.end b.start

-- MEETS: the first ends where the second starts
abbrev pub meets_period : FixedPeriod → FixedPeriod → Bool
meets_period a b = are_nonempty a b && int_eq a.end b.start

-- OVERLAPS: each starts before the other ends
abbrev pub overlaps_period : FixedPeriod → FixedPeriod → Bool
overlaps_period a b = are_nonempty a b && (int_lt a.start b.end && int_lt b.start a.end)

-- STARTS: both have one start
abbrev pub starts_period : FixedPeriod → FixedPeriod → Bool
starts_period a b = are_nonempty a b && int_eq a.start b.start

-- FINISHES: both have one end
abbrev pub finishes_period : FixedPeriod → FixedPeriod → Bool
finishes_period a b = are_nonempty a b && int_eq a.end b.end

-- DURING: the first starts at least where the second does, and ends at most where the second does
abbrev pub is_during : FixedPeriod → FixedPeriod → Bool
is_during a b = are_nonempty a b && (int_le b.start a.start && int_le a.end b.end)

-- EQUALS: both have one start and one end
abbrev pub equals_period : FixedPeriod → FixedPeriod → Bool
equals_period a b = are_nonempty a b && (int_eq a.start b.start && int_eq a.end b.end)
