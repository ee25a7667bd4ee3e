-- Half-lines of days, by their tests.
use Rattle.std.proofs.Common.{◌≡◌, ◌≤ℤ◌, ◌+ℤ◌, ℤ, pos, not, ◌&&◌, ◌||◌, int_lt, arith}
use Rattle.std.proofs.lemmas.Int.{ints}
use Rattle.og_base.proofs.BoundaryLemmas.{by_day}
use Rattle.og_base.specs.Calendar.{IsRefDay, first_day, last_day, before_all, after_all}

-- no day is before the first one, and each is before infinity
pub none_before : (d end next : ℤ) → IsRefDay d → end ≤ℤ first_day → (not (int_lt d next) && int_lt d after_all) ≡ (int_lt d end || not (int_lt d next))
none_before d end next r h = grind (arith, ints, r.0, r.1)

-- the days from the next one on are those after a day
pub from_next : (d last next : ℤ) → next ≡ last +ℤ pos 1 → not (int_lt d next) ≡ int_lt last d
from_next d last next e = grind (arith, ints)

-- no day is after the last one, and each is after -infinity
pub none_after : (d end last : ℤ) → IsRefDay d → last_day ≤ℤ last → (not (int_lt d before_all) && int_lt d end) ≡ (int_lt d end || int_lt last d)
none_after d end last r h = grind (arith, ints, r.0, r.1)

-- a day with no day after it is at least the last one
pub no_next : (last next : ℤ) → before_all ≤ℤ last → next ≡ last +ℤ pos 1 → (IsRefDay next → ⊥) → last_day ≤ℤ last
no_next last next h e none = by_day last last_day (λ l f. absurd (none (omega (arith, ints), omega (arith, ints)))) (λ l f. l)
