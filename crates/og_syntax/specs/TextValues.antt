-- The day, the point and the period of a text, found among all of them.
use Rattle.std.specs.Prelude.{◌+ℤ◌, ℕ, zero, suc, ℤ, pos, List, Option, Some, None, int_le, if◌then◌else◌}
use Rattle.std.specs.Str.{bytes_eq}
use Rattle.og_base.specs.Calendar.{before_all, day_text}
use Rattle.og_time.specs.Point.{Point, point_text}
use Rattle.og_time.specs.Period.{Period, period_text}

-- the first answer, and the second where there is none
abbrev pub or_else : {A : Type 0} → Option A → Option A → Option A
or_else (Some x) second = Some x
or_else None second = second

-- the first answer for so many numbers from one on
unfoldable pub search : {A : Type 0} → (ℤ → Option A) → ℤ → ℕ → Option A
search f n zero = None
search f n (suc count) = or_else (f n) (search f (n +ℤ pos 1) count)

-- the first answer for a day, the infinities among them
unfoldable pub search_days : {A : Type 0} → (ℤ → Option A) → Option A
search_days f = search f before_all 7_304_486

-- the answer for the point of two days, where the first is not after the second
abbrev pub of_rising : {A : Type 0} → (Point → Option A) → ℤ → ℤ → Option A
of_rising f low high = if int_le low high then f (record { low = low; high = high }) else None

-- the first answer for a point
unfoldable pub search_points : {A : Type 0} → (Point → Option A) → Option A
search_points f = search_days (λ low. search_days (λ high. of_rising f low high))

-- the first answer for a period
unfoldable pub search_periods : {A : Type 0} → (Period → Option A) → Option A
search_periods f = search_points (λ start. search_points (λ end. f (record { start = start; end = end })))

-- the value where that is its text
abbrev pub if_text : {A : Type 0} → (A → List ℕ) → List ℕ → A → Option A
if_text written text x = if bytes_eq (written x) text then Some x else None

-- the day of a day text
unfoldable pub day_of : List ℕ → Option ℤ
day_of text = search_days (if_text day_text text)

-- the point of a point text
unfoldable pub point_of : List ℕ → Option Point
point_of text = search_points (if_text point_text text)

-- the period of a period text
unfoldable pub period_of : List ℕ → Option Period
period_of text = search_periods (if_text period_text text)
