-- The days on which one point is before another.
use Rattle.std.proofs.Common.{◌≡◌, ◌≤ℤ◌, ◌<ℤ◌, ℤ, Bool, true, false, not, ◌&&◌, ◌||◌, int_lt, int_le, refl, ◌∙◌, ap, ap₂, arith}
use Rattle.std.specs.Ordering.{int_eq}
use Rattle.std.proofs.lemmas.Int.{ints}
use Rattle.og_base.specs.Calendar.{IsRefDay}
use Rattle.og_base.proofs.BoundaryLemmas.{by_day}
use Rattle.og_time.specs.FixedOperations.{least_of, greatest_of}
use Rattle.og_time.specs.Point.{Point, point_at}
use Rattle.og_time.specs.PointOrder.{parted_before, parted_after}

-- the value on a day is the low end, the day or the high end
pub by_value : {P : Type 0} (p : Point) (d : ℤ) → (d ≤ℤ p.low → point_at p d ≡ p.low → P)
    → (p.low <ℤ d → d <ℤ p.high → point_at p d ≡ d → P) → (p.low <ℤ d → p.high ≤ℤ d → point_at p d ≡ p.high → P) → P
by_value p d low day high =
    by_day p.low d
    (λ l e. by_day d p.high (λ m f. day l m (rw (e, f) refl)) (λ m f. high l m (rw (e, f) refl)))
    (λ l e. low l (rw e refl))

-- the days before which the low ends part two points
pub before_parted : (a c d : ℤ) → IsRefDay d → int_lt d (parted_before a c) ≡ (int_lt a c && int_lt d c)
before_parted a c d r = grind (arith, ints, r.0)

-- the days after which the high ends part two points
pub after_parted : (b e d : ℤ) → IsRefDay d → int_lt (parted_after b e) d ≡ (int_lt b e && int_lt b d)
after_parted b e d r = grind (arith, ints, r.1)

-- a+b is before c+e on a day where the low ends part them before it, or the high ends after it
pub point_at-before : (p q : Point) (d : ℤ) → p.low ≤ℤ p.high → q.low ≤ℤ q.high → (int_lt p.low q.low && int_lt d q.low || int_lt p.high q.high && int_lt p.high d) ≡ int_lt (point_at p d) (point_at q d)
point_at-before p q d h k =
    by_value p d
    (λ l e. by_value q d
    (λ m f. rw (e, f) (grind (arith, ints)))
    (λ m n f. rw (e, f) (grind (arith, ints)))
    (λ m n f. rw (e, f) (grind (arith, ints))))
    (λ l i e. by_value q d
    (λ m f. rw (e, f) (grind (arith, ints)))
    (λ m n f. rw (e, f) (grind (arith, ints)))
    (λ m n f. rw (e, f) (grind (arith, ints))))
    (λ l i e. by_value q d
    (λ m f. rw (e, f) (grind (arith, ints)))
    (λ m n f. rw (e, f) (grind (arith, ints)))
    (λ m n f. rw (e, f) (grind (arith, ints))))

-- a point is before another on the days before one day, and on the days after another
pub parted : (p q : Point) (d : ℤ) → p.low ≤ℤ p.high → q.low ≤ℤ q.high → IsRefDay d → (int_lt d (parted_before p.low q.low) || int_lt (parted_after p.high q.high) d) ≡ int_lt (point_at p d) (point_at q d)
parted p q d h k r = ap₂ (λ s t. s || t) (before_parted p.low q.low d r) (after_parted p.high q.high d r) ∙ point_at-before p q d h k

-- the point of the lesser ends is the lesser point
pub point_at-least : (p q : Point) (d : ℤ) → p.low ≤ℤ p.high → q.low ≤ℤ q.high → point_at (record { low = least_of p.low q.low; high = least_of p.high q.high }) d ≡ least_of (point_at p d) (point_at q d)
point_at-least p q d h k =
    by_value p d
    (λ l e. by_value q d
    (λ m f. rw (e, f) (grind (arith, ints)))
    (λ m n f. rw (e, f) (grind (arith, ints)))
    (λ m n f. rw (e, f) (grind (arith, ints))))
    (λ l i e. by_value q d
    (λ m f. rw (e, f) (grind (arith, ints)))
    (λ m n f. rw (e, f) (grind (arith, ints)))
    (λ m n f. rw (e, f) (grind (arith, ints))))
    (λ l i e. by_value q d
    (λ m f. rw (e, f) (grind (arith, ints)))
    (λ m n f. rw (e, f) (grind (arith, ints)))
    (λ m n f. rw (e, f) (grind (arith, ints))))

-- the point of the greater ends is the greater point
pub point_at-greatest : (p q : Point) (d : ℤ) → p.low ≤ℤ p.high → q.low ≤ℤ q.high → point_at (record { low = greatest_of p.low q.low; high = greatest_of p.high q.high }) d ≡ greatest_of (point_at p d) (point_at q d)
point_at-greatest p q d h k =
    by_value p d
    (λ l e. by_value q d
    (λ m f. rw (e, f) (grind (arith, ints)))
    (λ m n f. rw (e, f) (grind (arith, ints)))
    (λ m n f. rw (e, f) (grind (arith, ints))))
    (λ l i e. by_value q d
    (λ m f. rw (e, f) (grind (arith, ints)))
    (λ m n f. rw (e, f) (grind (arith, ints)))
    (λ m n f. rw (e, f) (grind (arith, ints))))
    (λ l i e. by_value q d
    (λ m f. rw (e, f) (grind (arith, ints)))
    (λ m n f. rw (e, f) (grind (arith, ints)))
    (λ m n f. rw (e, f) (grind (arith, ints))))

-- the days on which neither point is before the other, from one day to another
pub neither : (p q : Point) (d : ℤ) → p.low ≤ℤ p.high → q.low ≤ℤ q.high → IsRefDay d
    → (not (int_lt d (greatest_of (parted_before p.low q.low) (parted_before q.low p.low))) && not (int_lt (least_of (parted_after p.high q.high) (parted_after q.high p.high)) d)) ≡ int_eq (point_at p d) (point_at q d)
neither p q d h k r =
    ap₂ (λ s t. not s && not t) (before_either _ _ d) (after_either _ _ d)
    ∙ both (int_lt d (parted_before p.low q.low)) _ _ _
    ∙ ap₂ (λ s t. not s && not t) (parted p q d h k r) (parted q p d k h r)
    ∙ same (point_at p d) (point_at q d)
  where
    before_either : (x y d : ℤ) → int_lt d (greatest_of x y) ≡ (int_lt d x || int_lt d y)
    before_either x y d = grind (arith, ints)

    after_either : (x y d : ℤ) → int_lt (least_of x y) d ≡ (int_lt x d || int_lt y d)
    after_either x y d = grind (arith, ints)

    both : (s t u v : Bool) → (not (s || t) && not (u || v)) ≡ (not (s || u) && not (t || v))
    both true t u v = refl
    both false true true v = refl
    both false true false v = refl
    both false false true v = refl
    both false false false v = refl

    same : (x y : ℤ) → (not (int_lt x y) && not (int_lt y x)) ≡ int_eq x y
    same x y = grind (arith, ints)

-- the days on which a point is not before another
pub not_parted : (p q : Point) (d : ℤ) → p.low ≤ℤ p.high → q.low ≤ℤ q.high → IsRefDay d → (not (int_lt d (parted_before p.low q.low)) && not (int_lt (parted_after p.high q.high) d)) ≡ not (int_lt (point_at p d) (point_at q d))
not_parted p q d h k r = neither_of (int_lt d (parted_before p.low q.low)) _ ∙ ap not (parted p q d h k r)
  where
    neither_of : (s t : Bool) → (not s && not t) ≡ not (s || t)
    neither_of true t = refl
    neither_of false t = refl

-- a day is at most another where the other is not before it
pub int_le-not : (x y : ℤ) → not (int_lt y x) ≡ int_le x y
int_le-not x y = grind (arith, ints)
