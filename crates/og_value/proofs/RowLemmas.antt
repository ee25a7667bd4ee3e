-- When two values, and two rows, are the same on a day.
use Rattle.std.proofs.Common.{◌≡◌, ◌↔◌, ◌&&◌, ◌+◌, ℕ, ℤ, pos, zero, suc, add-one, Bool, true, false, List, [], ◌∷◌, take, Some, slice_get, refl, sym, ap, ap₂, ◌∙◌, subst, true≢false}
use Rattle.std.specs.Option.{option_map}
use Rattle.std.proofs.lemmas.List.{take-map}
use Rattle.std.proofs.lemmas.Option.{slice_get-map}
use Rattle.std.specs.Bool.{Decides}
use Rattle.std.specs.Ordering.{int_eq}
use Rattle.std.proofs.lemmas.Bool.Decides.{Decides-int_eq, Decides-at}
use Rattle.og_base.specs.declared.range.FixedPeriod.{FixedPeriod}
use Rattle.og_time.specs.Point.{point_at}
use Rattle.og_time.specs.Point as points
use Rattle.og_time.specs.Period.{Period, period_at}
use Rattle.og_value.specs.declared.value.Value.{Value}
use Rattle.og_value.specs.declared.value.Value.TheVariants.{Point}
use Rattle.og_value.specs.declared.value.FixedValue.{FixedValue}
use Rattle.og_value.specs.declared.value.FixedValue.TheVariants.{Date}
use Rattle.og_value.specs.Values.{value_at, row_at}

-- where one answer decides the one part and another the other, both decide the whole
pub Decides-and : {P Q R : Type 0} (a b : Bool) → Decides a P → Decides b Q → (P → Q → R) → (R → P × Q) → Decides (a && b) R
Decides-and true b p q join part = (λ e. join (p.0 refl) (q.0 e), λ r. q.1 (part r).1)
Decides-and false b p q join part = (λ e. absurd (true≢false (sym e)), λ r. p.1 (part r).0)

-- two periods are the same where their ends are
periods_same : (p q : FixedPeriod) → Decides (int_eq p.start q.start && int_eq p.end q.end) (p ≡ q)
periods_same p q =
    Decides-and (int_eq p.start q.start) (int_eq p.end q.end) (Decides-int_eq p.start q.start) (Decides-int_eq p.end q.end)
    (λ a b. ap₂ period_of a b) (λ e. (ap (λ (r : FixedPeriod). r.start) e, ap (λ (r : FixedPeriod). r.end) e))
  where
    period_of : ℤ → ℤ → FixedPeriod
    period_of s t = record { start = s; end = t }

-- two points are the same where their bounds are
points_alike : (p q : points.Point) → Decides (int_eq p.low q.low && int_eq p.high q.high) (p ≡ q)
points_alike p q =
    Decides-and (int_eq p.low q.low) (int_eq p.high q.high) (Decides-int_eq p.low q.low) (Decides-int_eq p.high q.high)
    (λ a b. ap₂ point_of a b) (λ e. (ap (λ (r : points.Point). r.low) e, ap (λ (r : points.Point). r.high) e))
  where
    point_of : ℤ → ℤ → points.Point
    point_of a b = record { low = a; high = b }

-- two periods are the same where the points at their ends are
pub periods_alike : (i j : Period) (s t u w : points.Point) → s ≡ i.start → t ≡ j.start → u ≡ i.end → w ≡ j.end
    → (int_eq s.low t.low && int_eq s.high t.high) ≡ true → (int_eq u.low w.low && int_eq u.high w.high) ≡ true → i ≡ j
periods_alike i j s t u w a b e f g h = ap₂ period_of (sym a ∙ (points_alike s t).0 g ∙ b) (sym e ∙ (points_alike u w).0 h ∙ f)
  where
    period_of : points.Point → points.Point → Period
    period_of x y = record { start = x; end = y }

-- the parts of two lists up to one more place are the same where the parts up to that place are, and what stands there
pub take_same : {A : Type 0} (xs ys : List A) (i : ℕ) (x y : A) → slice_get xs i ≡ Some x → slice_get ys i ≡ Some y
    → (take (suc i) xs ≡ take (suc i) ys) ↔ ((take i xs ≡ take i ys) × (x ≡ y))
take_same [] ys i x y e f = cc
take_same (a ∷ xs) [] i x y e f = cc
take_same (a ∷ xs) (b ∷ ys) zero x y e f = (λ h. (refl, cc), λ h. cc)
take_same (a ∷ xs) (b ∷ ys) (suc i) x y e f =
    let rest = take_same xs ys i x y e f in (
      λ h. let t = rest.0 (tail_same a b (take (suc i) xs) (take (suc i) ys) h) in (ap₂ (λ z zs. z ∷ zs) (head_same a b (take (suc i) xs) (take (suc i) ys) h) t.0, t.1),
      λ h. ap₂ (λ z zs. z ∷ zs) (head_same a b (take i xs) (take i ys) h.0) (rest.1 (tail_same a b (take i xs) (take i ys) h.0, h.1)),
    )
  where
    head_same : {B : Type 0} (c d : B) (us vs : List B) → c ∷ us ≡ d ∷ vs → c ≡ d
    head_same c d us vs h = cc

    tail_same : {B : Type 0} (c d : B) (us vs : List B) → c ∷ us ≡ d ∷ vs → us ≡ vs
    tail_same c d us vs h = cc

-- the same of the parts of two rows on a day
rows_same : (vs ws : List Value) (i : ℕ) (v w : Value) (d : ℤ) → slice_get vs i ≡ Some v → slice_get ws i ≡ Some w
    → (row_at (take (suc i) vs) d ≡ row_at (take (suc i) ws) d) ↔ ((row_at (take i vs) d ≡ row_at (take i ws) d) × (value_at v d ≡ value_at w d))
rows_same vs ws i v w d e f =
    let same = take_same (row_at vs d) (row_at ws d) i (value_at v d) (value_at w d) (placed vs v e) (placed ws w f) in (
      λ h. let t = same.0 (taken (suc i) vs ∙ h ∙ sym (taken (suc i) ws)) in (sym (taken i vs) ∙ t.0 ∙ taken i ws, t.1),
      λ h. sym (taken (suc i) vs) ∙ same.1 (taken i vs ∙ h.0 ∙ sym (taken i ws), h.1) ∙ taken (suc i) ws,
    )
  where
    placed : (us : List Value) (u : Value) → slice_get us i ≡ Some u → slice_get (row_at us d) i ≡ Some (value_at u d)
    placed us u g = slice_get-map (λ x. value_at x d) us i ∙ ap (option_map (λ x. value_at x d)) g

    taken : (n : ℕ) (us : List Value) → take n (row_at us d) ≡ row_at (take n us) d
    taken n us = take-map (λ x. value_at x d) n us

-- what decides it of the parts up to a place, and of what stands there, decides it of the parts up to one more place
pub rows_next : (vs ws : List Value) (i : ℕ) (v w : Value) (d : ℤ) (a b c : Bool) → slice_get vs i ≡ Some v → slice_get ws i ≡ Some w → c ≡ (a && b)
    → Decides a (row_at (take i vs) d ≡ row_at (take i ws) d) → Decides b (value_at v d ≡ value_at w d)
    → Decides c (row_at (take (i + 1) vs) d ≡ row_at (take (i + 1) ws) d)
rows_next vs ws i v w d a b c e f m p q =
    let same = rows_same vs ws i v w d e f in
    subst (λ n. Decides c (row_at (take n vs) d ≡ row_at (take n ws) d)) (sym (add-one i))
    (Decides-at c (a && b) m (Decides-and a b p q (λ x y. same.1 (x, y)) same.0))

-- what decides it of two points decides it of the points as values
pub points_same : (p q : points.Point) (d : ℤ) (b : Bool) → b ≡ int_eq (point_at p d) (point_at q d) → Decides b (value_at (Point p) d ≡ value_at (Point q) d)
points_same p q d b e =
    let k = Decides-int_eq (point_at p d) (point_at q d) in
    Decides-at b (int_eq (point_at p d) (point_at q d)) e (λ t. ap Date (k.0 t), λ h. k.1 (ap day_of h))
  where
    day_of : FixedValue → ℤ
    day_of (Date n) = n
    day_of _ = pos 0

-- the starts and the ends of two periods decide it of the periods
pub periods_days : (i j : Period) (s t u v : points.Point) (d : ℤ) (b : Bool) → s ≡ i.start → t ≡ j.start → u ≡ i.end → v ≡ j.end
    → b ≡ (int_eq (point_at s d) (point_at t d) && int_eq (point_at u d) (point_at v d)) → Decides b (period_at i d ≡ period_at j d)
periods_days i j s t u v d b e f g h m =
    Decides-at b _
    (m ∙ ap₂ (λ x y. x && y) (ap₂ (λ p q. int_eq (point_at p d) (point_at q d)) e f) (ap₂ (λ p q. int_eq (point_at p d) (point_at q d)) g h))
    (periods_same (period_at i d) (period_at j d))
