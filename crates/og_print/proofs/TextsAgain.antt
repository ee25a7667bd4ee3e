-- The text that is written for a day, a point or a period is the one that it was read from.
use Rattle.std.proofs.Common.{◌≡◌, inl, inr, ℕ, ℤ, List, refl, sym, ap₂, ◌∙◌, subst, arith}
use Rattle.std.proofs.lemmas.Int.{ints}
use Rattle.og_base.specs.Calendar.{IsExtDay, IsDayText, day_text}
use Rattle.og_base.proofs.DayTexts.{civil_in_range, text_is}
use Rattle.og_time.specs.Point.{Point, IsPoint, IsPointText, point_text}
use Rattle.og_time.specs.Period.{Period, IsPeriodText, period_text, bracketed}
use Rattle.og_time.proofs.PointWriting.{point_text-is}
use Rattle.og_syntax.proofs.TextValues.{day_in_range, point_in_range}

-- a day's text
pub day_again : (text : List ℕ) (n : ℤ) → IsDayText text n → text ≡ day_text n
day_again text n h = text_is text n (day_in_range text n h) h

-- a point's text
pub point_again : (text : List ℕ) (p : Point) → IsPointText text p → text ≡ point_text p
point_again text p h = point_text-is text p (point_in_range text p h) h

-- the text of a day is that of the point that is this day on all days
pub fixed_again : (text : List ℕ) (n : ℤ) → IsDayText text n → text ≡ point_text (record { low = n; high = n })
fixed_again text n h = point_again text (record { low = n; high = n }) (inl (h, refl))

-- a period's text
pub period_again : (text : List ℕ) (i : Period) → IsPeriodText text i → text ≡ period_text i
period_again text i h = h.2 ∙ ap₂ bracketed (point_again h.0 i.start h.3) (point_again h.1 i.end h.4)
