-- The search for the longest range of days around a day finds it.
use Rattle.std.proofs.Common.{◌≡◌, ◌⊎◌, ◌≤ℤ◌, ◌<ℤ◌, ◌+ℤ◌, ◌-ℤ◌, ℕ, zero, suc, ℤ, pos, negsuc, Bool, true, false, if◌then◌else◌, refl, sym, ◌∙◌, subst, inl, inr, ⊎_elim, true≢false, arith}
use Rattle.std.specs.Prelude.{unsigned_abs}
use Rattle.std.specs.Bool.{Decides}
use Rattle.std.proofs.lemmas.Int.{ints}
use Rattle.og_base.specs.Calendar.{IsRefDay, first_day, last_day}
use Rattle.og_base.specs.Ranges.{Range}
use Rattle.og_base.proofs.BoundaryLemmas.{by_day}
use Rattle.og_change.specs.Same.{IsAround, IsLongest}
use Rattle.og_output.proofs.LongestLemmas.{in_range-between, between-in_range}
use Rattle.og_session.specs.Output.{first_of, end_of}

-- what a number of days is that is not below nothing
count_is : (z : ℤ) → pos 0 ≤ℤ z → pos (unsigned_abs z) ≡ z
count_is (pos n) h = refl
count_is (negsuc n) h = absurd (omega (arith, ints, h))

-- so many days after the one day comes the other
days_after : (low day : ℤ) → low ≤ℤ day → low +ℤ pos (unsigned_abs (day -ℤ low)) ≡ day
days_after low day h = let e = count_is (day -ℤ low) (omega (arith, ints, h)) in omega (arith, ints, e)

module _ (test : ℤ → Bool) where
  -- the first day from which on the test holds up to a day, where none before the low one is asked
  record IsFirst (low day first : ℤ) : Type 0 where
    pub after : low ≤ℤ first
    pub up : first ≤ℤ day
    pub all : (d : ℤ) → first ≤ℤ d → d <ℤ day → test d ≡ true
    pub stop : (first ≡ low) ⊎ (test (first -ℤ pos 1) ≡ false)

  first_is : (low day : ℤ) (n : ℕ) → low +ℤ pos n ≡ day → IsFirst low day (first_of test day n)
  unfolding first_of
  first_is low day zero e = record { after = omega (arith, ints, e); up = omega (arith, ints); all = λ d a b. absurd (omega (arith, ints, a, b)); stop = inl (omega (arith, ints, e)) }
  first_is low day (suc n) e = by (first_is low (day -ℤ pos 1) n (omega (arith, ints, e))) (test (day -ℤ pos 1)) refl
    where
      by : IsFirst low (day -ℤ pos 1) (first_of test (day -ℤ pos 1) n) → (b : Bool) → test (day -ℤ pos 1) ≡ b → IsFirst low day (if b then first_of test (day -ℤ pos 1) n else day)
      by rest true is = record {
        after = rest.after;
        up = omega (arith, ints, rest.up);
        all = λ d a b. by_day d (day -ℤ pos 1) (λ l _. rest.all d a l) (λ m _. subst (λ x. test x ≡ true) (omega (arith, ints, m, b)) is);
        stop = rest.stop;
      }
      by rest false is = record { after = omega (arith, ints, e); up = omega (arith, ints); all = λ d a b. absurd (omega (arith, ints, a, b)); stop = inr is }

  -- the day after the last one up to which the test holds after a day, where none after the high one is asked
  record IsEnd (high day end : ℤ) : Type 0 where
    pub before : end ≤ℤ (high +ℤ pos 1)
    pub up : day <ℤ end
    pub all : (d : ℤ) → day <ℤ d → d <ℤ end → test d ≡ true
    pub stop : (end ≡ (high +ℤ pos 1)) ⊎ (test end ≡ false)

  end_is : (high day : ℤ) (n : ℕ) → day +ℤ pos n ≡ high → IsEnd high day (end_of test day n)
  unfolding end_of
  end_is high day zero e = record { before = omega (arith, ints, e); up = omega (arith, ints); all = λ d a b. absurd (omega (arith, ints, a, b)); stop = inl (omega (arith, ints, e)) }
  end_is high day (suc n) e = by (end_is high (day +ℤ pos 1) n (omega (arith, ints, e))) (test (day +ℤ pos 1)) refl
    where
      by : IsEnd high (day +ℤ pos 1) (end_of test (day +ℤ pos 1) n) → (b : Bool) → test (day +ℤ pos 1) ≡ b → IsEnd high day (if b then end_of test (day +ℤ pos 1) n else day +ℤ pos 1)
      by rest true is = record {
        before = rest.before;
        up = omega (arith, ints, rest.up);
        all = λ d a b. by_day (day +ℤ pos 1) d (λ l _. rest.all d l b) (λ m _. subst (λ x. test x ≡ true) (omega (arith, ints, m, a)) is);
        stop = rest.stop;
      }
      by rest false is = record { before = omega (arith, ints, e); up = omega (arith, ints); all = λ d a b. absurd (omega (arith, ints, a, b)); stop = inr is }

  -- the range of the days that the search finds around a day
  abbrev pub searched : ℤ → Range
  searched day = record { lo = first_of test day (unsigned_abs (day -ℤ first_day)); hi = end_of test day (unsigned_abs (last_day -ℤ day)) }

  -- it is the longest one
  pub longest : (IsSo : ℤ → Type 0) → ((d : ℤ) → Decides (test d) (IsSo d)) → (day : ℤ) → IsRefDay day → IsSo day → IsLongest IsSo day (searched day)
  longest IsSo decides day is itself =
      let first = first_is first_day day (unsigned_abs (day -ℤ first_day)) (days_after first_day day is.0) in
      let end = end_is last_day day (unsigned_abs (last_day -ℤ day)) (days_after day last_day is.1) in record {
        one = record {
          is_range = record {
            lo_in = (first.after, omega (arith, ints, first.up, is.1));
            hi_in = (omega (arith, ints, end.up, is.0), omega (arith, ints, end.before));
            some = omega (arith, ints, first.up, end.up);
          };
          around = between-in_range (searched day) day first.up end.up;
          so = λ d within. let b = in_range-between (searched day) d within in
              by_day d day (λ l _. (decides d).0 (first.all d b.0 l)) (λ m _. by_day day d (λ l _. (decides d).0 (end.all d l b.1)) (λ n _. subst IsSo (omega (arith, ints, m, n)) itself));
        };
        longest = λ other a. let b = in_range-between other day a.around in
            (not_before first other a b, not_after end other a b);
      }
    where
      not_before : {first : ℤ} → IsFirst first_day day first → (other : Range) → IsAround IsSo day other → (other.lo ≤ℤ day) × (day <ℤ other.hi) → first ≤ℤ other.lo
      not_before {first} found other a b =
          by_day other.lo first
          (λ l _. ⊎_elim (λ e. absurd (omega (arith, ints, e, l, a.is_range.lo_in)))
          (λ no. absurd (true≢false (sym ((decides (first -ℤ pos 1)).1 (a.so (first -ℤ pos 1) (between-in_range other (first -ℤ pos 1) (omega (arith, ints, l)) (omega (arith, ints, found.up, b.1))))) ∙ no)))
          found.stop)
          (λ m _. m)

      not_after : {end : ℤ} → IsEnd last_day day end → (other : Range) → IsAround IsSo day other → (other.lo ≤ℤ day) × (day <ℤ other.hi) → other.hi ≤ℤ end
      not_after {end} found other a b =
          by_day end other.hi
          (λ l _. ⊎_elim (λ e. absurd (omega (arith, ints, e, l, a.is_range.hi_in)))
          (λ no. absurd (true≢false (sym ((decides end).1 (a.so end (between-in_range other end (omega (arith, ints, found.up, b.0)) l))) ∙ no)))
          found.stop)
          (λ m _. m)
