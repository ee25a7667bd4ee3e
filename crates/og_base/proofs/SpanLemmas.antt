-- What meets of spans hold.
use Rattle.std.proofs.Common.{◌≡◌, ℤ, Bool, true, false, not, ◌&&◌, ◌||◌, int_lt, List, refl, true≢false, arith}
use Rattle.std.proofs.lemmas.Int.{ints}
use Rattle.og_base.specs.Calendar.{first_day, after_all, before_all}
use Rattle.og_base.specs.Ranges.{Range, in_range, holds_day}
use Rattle.og_base.specs.Boundaries.{ranges_of, Rises, inside_from}
use Rattle.og_base.proofs.BoundaryLemmas.{inside_from-low, holds_day-ranges_of}

-- a day before neither of two days and before both of two others lies between the first pair and between the second
pub between_both : (a b c e : Bool) → (not (a || b) && (c && e)) ≡ ((not a && c) && (not b && e))
between_both true b c e = refl
between_both false true true e = refl
between_both false true false e = refl
between_both false false true e = refl
between_both false false false e = refl

-- all reference days
abbrev pub all_days : Range
all_days = record { lo = first_day; hi = after_all }

-- what is outside before a day, and is cut off at another, lies between the two
cut_between : (inside early late : Bool) → (early ≡ true → inside ≡ false) → (inside && late) ≡ ((not early && late) && (inside && late))
cut_between true true late h = absurd (true≢false (h refl))
cut_between true false true h = refl
cut_between true false false h = refl
cut_between false true late h = refl
cut_between false false true h = refl
cut_between false false false h = refl

-- a set holds reference days alone
holds_day-reference : (bs : List ℤ) (d : ℤ) → Rises before_all bs → holds_day (ranges_of bs) d ≡ (in_range all_days d && holds_day (ranges_of bs) d)
holds_day-reference bs d up =
    let e = holds_day-ranges_of before_all bs up d in
    rw e (cut_between (inside_from false bs d) (int_lt d first_day) (int_lt d after_all) (λ h. inside_from-low false before_all bs d up (grind (arith, ints, h))))

-- so the set of all reference days changes nothing in a meet
pub meet_all : (span : Range) (whole set : List Range) (bs : List ℤ) (d : ℤ) → ranges_of bs ≡ set → Rises before_all bs → holds_day whole d ≡ in_range span d → span ≡ all_days → holds_day set d ≡ (holds_day whole d && holds_day set d)
meet_all span whole set bs d is up held all = rw (held, all, ← is) (holds_day-reference bs d up)
