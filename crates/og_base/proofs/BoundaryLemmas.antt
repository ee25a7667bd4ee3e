-- Boundaries and ranges say the same of each day, and the ranges between rising boundaries are in normal form.
use Rattle.std.proofs.Common.{◌≡◌, ◌<ℤ◌, ◌≤ℤ◌, ℤ, Bool, true, false, not, ◌&&◌, int_lt, List, [], ◌∷◌, refl, sym, ap, ap₂, ◌∙◌, subst, true≢false, arith}
use Rattle.std.proofs.lemmas.Int.{ints}
use Rattle.og_base.specs.Calendar.{IsRefDay, after_all, before_all}
use Rattle.og_base.specs.Ranges.{Range, IsNormal, BeginAfter, holds_day}
use Rattle.og_base.specs.Boundaries.{ranges_of, boundaries_of, Rises, inside_from}

-- the test of an earlier day
pub int_lt-yes : (a b : ℤ) → a <ℤ b → int_lt a b ≡ true
int_lt-yes a b h = grind (arith, ints)

-- the test of a day that is no earlier
pub int_lt-no : (a b : ℤ) → b ≤ℤ a → int_lt a b ≡ false
int_lt-no a b h = grind (arith, ints)

-- a day is earlier, or it is not
pub by_day : {P : Type 0} (a b : ℤ) → (a <ℤ b → int_lt a b ≡ true → P) → (b ≤ℤ a → int_lt a b ≡ false → P) → P
by_day {P} a b f g = at (int_lt a b) refl
  where
    at : (t : Bool) → int_lt a b ≡ t → P
    at true e = f (grind (arith, ints)) e
    at false e = g (grind (arith, ints)) e

-- before the first boundary nothing changes
pub inside_from-before : (s : Bool) (b : ℤ) (bs : List ℤ) (d : ℤ) → d <ℤ b → inside_from s (b ∷ bs) d ≡ s
inside_from-before s b bs d h = let e = int_lt-yes d b h in rw e

-- from the first boundary on it has changed
pub inside_from-past : (s : Bool) (b : ℤ) (bs : List ℤ) (d : ℤ) → b ≤ℤ d → inside_from s (b ∷ bs) d ≡ inside_from (not s) bs d
inside_from-past s b bs d h = let e = int_lt-no d b h in rw e

-- up to the day that the boundaries rise from nothing changes
pub inside_from-low : (s : Bool) (low : ℤ) (bs : List ℤ) (d : ℤ) → Rises low bs → d ≤ℤ low → inside_from s bs d ≡ s
inside_from-low s low [] d up h = refl
inside_from-low s low (b ∷ bs) d up h = inside_from-before s b bs d (omega (arith, ints))

-- boundaries that rise from a later day rise from an earlier one
pub Rises-lower : (low high : ℤ) (bs : List ℤ) → low ≤ℤ high → Rises high bs → Rises low bs
Rises-lower low high [] h up = tt
Rises-lower low high (b ∷ bs) h up = (omega (arith, ints), up.1, up.2)

-- the ranges hold a day where the boundaries have it inside
pub holds_day-ranges_of : (low : ℤ) (bs : List ℤ) → Rises low bs → (d : ℤ) → holds_day (ranges_of bs) d ≡ (inside_from false bs d && int_lt d after_all)
holds_day-ranges_of low [] up d = refl
holds_day-ranges_of low (lo ∷ []) up d = grind arith
holds_day-ranges_of low (lo ∷ (hi ∷ bs)) up d =
    let rest = holds_day-ranges_of hi bs up.2.2 d in
    by_day d lo
    (λ l e. let e2 = int_lt-yes d hi (omega (arith, ints)) in let none = inside_from-low false hi bs d up.2.2 (omega (arith, ints)) in rw (e, rest, none) refl)
    (λ l e. by_day d hi
    (λ m f. let g = int_lt-yes d after_all (omega (arith, ints)) in rw (e, f, g) refl)
    (λ m f. rw (e, f, rest) refl))

-- ranges between boundaries that rise from a day begin after it
BeginAfter-ranges_of : (low : ℤ) (bs : List ℤ) → Rises low bs → BeginAfter low (ranges_of bs)
BeginAfter-ranges_of low [] up = tt
BeginAfter-ranges_of low (lo ∷ []) up = up.0
BeginAfter-ranges_of low (lo ∷ (hi ∷ bs)) up = up.0

-- the ranges between rising boundaries are in normal form
pub IsNormal-ranges_of : (low : ℤ) (bs : List ℤ) → before_all ≤ℤ low → Rises low bs → IsNormal (ranges_of bs)
IsNormal-ranges_of low [] l up = tt
IsNormal-ranges_of low (lo ∷ []) l up =
    (record { lo_in = (omega (arith, ints), omega (arith, ints)); hi_in = (omega (arith, ints), omega (arith, ints)); some = up.1 }, tt, tt)
IsNormal-ranges_of low (lo ∷ (hi ∷ bs)) l up = (
  record { lo_in = (omega (arith, ints), omega (arith, ints)); hi_in = (omega (arith, ints), omega (arith, ints)); some = up.2.0 },
  BeginAfter-ranges_of hi bs up.2.2,
  IsNormal-ranges_of hi bs (omega (arith, ints)) up.2.2,
)

-- the boundaries of ranges in normal form rise
Rises-boundaries_of : (low : ℤ) (rs : List Range) → IsNormal rs → BeginAfter low rs → Rises low (boundaries_of rs)
Rises-boundaries_of low [] n b = tt
Rises-boundaries_of low (r ∷ rs) n b =
    by_day r.hi after_all
    (λ h e. rw e (b, omega (arith, ints, n.0.some), (n.0.some, h, Rises-boundaries_of r.hi rs n.2 n.1)))
    (λ h e. rw e (b, omega (arith, ints, n.0.some, n.0.hi_in), Rises-boundaries_of r.lo rs n.2 (begin rs n.1)))
  where
    begin : (qs : List Range) → BeginAfter r.hi qs → BeginAfter r.lo qs
    begin [] k = tt
    begin (q ∷ qs) k = omega (arith, ints, n.0.some)

-- they are reference days
pub Rises-normal : (bs : List ℤ) (rs : List Range) → bs ≡ boundaries_of rs → IsNormal rs → Rises before_all bs
Rises-normal bs [] e n = rw e tt
Rises-normal bs (r ∷ rs) e n = rw e (Rises-boundaries_of before_all (r ∷ rs) n (omega (arith, ints, n.0.lo_in)))

-- ranges in normal form are the ranges between their boundaries
ranges_of-boundaries_of : (rs : List Range) → IsNormal rs → ranges_of (boundaries_of rs) ≡ rs
ranges_of-boundaries_of [] n = refl
ranges_of-boundaries_of (r ∷ rs) n =
    by_day r.hi after_all
    (λ h e. rw e (ap (λ qs. r ∷ qs) (ranges_of-boundaries_of rs n.2)))
    (λ h e. rw e (last rs n.1 n.2 h))
  where
    last : (qs : List Range) → BeginAfter r.hi qs → IsNormal qs → after_all ≤ℤ r.hi → ranges_of (r.lo ∷ boundaries_of qs) ≡ r ∷ qs
    last [] k m h = let e : after_all ≡ r.hi = omega (arith, ints, n.0.hi_in) in ap (λ x. let q : Range = record { lo = r.lo; hi = x } in q ∷ []) e
    last (q ∷ qs) k m h = absurd (omega (arith, ints, m.0.lo_in))

pub ranges_of-normal : (bs : List ℤ) (rs : List Range) → bs ≡ boundaries_of rs → IsNormal rs → ranges_of bs ≡ rs
ranges_of-normal bs rs e n = ap ranges_of e ∙ ranges_of-boundaries_of rs n

-- at a boundary what is inside changes
pub inside_from-at : (s : Bool) (b : ℤ) (bs : List ℤ) → Rises b bs → inside_from s (b ∷ bs) b ≡ not s
inside_from-at s b bs up = inside_from-past s b bs b (omega (arith, ints)) ∙ inside_from-low (not s) b bs b up (omega (arith, ints))

not_itself : {G : Type 0} (s : Bool) → not s ≡ s → G
not_itself true e = absurd (true≢false (sym e))
not_itself false e = absurd (true≢false e)

-- at the first boundary of one list, the other changes too
same_first : {G : Type 0} (s : Bool) (low x : ℤ) (xs ys : List ℤ) → before_all ≤ℤ low → Rises low (x ∷ xs) → Rises x ys → ((d : ℤ) → IsRefDay d → inside_from s (x ∷ xs) d ≡ inside_from s ys d) → G
same_first s low x xs ys l up vp same =
    not_itself s (sym (inside_from-at s x xs up.2) ∙ same x (omega (arith, ints), omega (arith, ints)) ∙ inside_from-low s x ys x vp (omega (arith, ints)))

-- rising boundaries that have the same reference days inside are the same
pub same_boundaries : (s : Bool) (low : ℤ) (xs ys : List ℤ) → before_all ≤ℤ low → Rises low xs → Rises low ys → ((d : ℤ) → IsRefDay d → inside_from s xs d ≡ inside_from s ys d) → xs ≡ ys
same_boundaries s low [] [] l up vp same = refl
same_boundaries s low [] (y ∷ ys) l up vp same = same_first s low y ys [] l vp tt (λ d h. sym (same d h))
same_boundaries s low (x ∷ xs) [] l up vp same = same_first s low x xs [] l up tt same
same_boundaries s low (x ∷ xs) (y ∷ ys) l up vp same =
    by_day x y
    (λ m _. same_first s low x xs (y ∷ ys) l up (m, vp.1, vp.2) same)
    (λ m _. by_day y x
    (λ n _. same_first s low y ys (x ∷ xs) l vp (n, up.1, up.2) (λ d h. sym (same d h)))
    (λ n _. let e : x ≡ y = omega (arith, ints) in
    let vq : Rises x ys = subst (λ z. Rises z ys) (sym e) vp.2 in
    ap₂ (λ z zs. z ∷ zs) e (same_boundaries (not s) x xs ys (omega (arith, ints)) up.2 vq
    (λ d h. by_day d x
    (λ k _. inside_from-low (not s) x xs d up.2 (omega (arith, ints)) ∙ sym (inside_from-low (not s) x ys d vq (omega (arith, ints))))
    (λ k _. sym (inside_from-past s x xs d k) ∙ same d h ∙ inside_from-past s y ys d (omega (arith, ints)))))))
