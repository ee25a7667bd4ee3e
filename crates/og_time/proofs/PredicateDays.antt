-- What the cuts of a predicate say together of a day.
use Rattle.std.proofs.Common.{◌≡◌, ℤ, Bool, true, false, not, ◌&&◌, int_lt, int_le, refl, ◌∙◌, ap₂, arith}
use Rattle.std.proofs.lemmas.Int.{ints}
use Rattle.og_time.specs.FixedOperations.{is_empty_period}
use Rattle.og_time.specs.Period.{Period, period_at}
use Rattle.og_time.specs.Point.{Point, point_at}
use Rattle.og_time.proofs.PointOrder.{int_le-not}

-- what is said of the values of two points is said of those of the same points
pub of_same : {x : Bool} {p q r s : Point} (f : ℤ → ℤ → Bool) (d : ℤ) → p ≡ r → q ≡ s → x ≡ f (point_at p d) (point_at q d) → x ≡ f (point_at r d) (point_at s d)
of_same f d e g h = h ∙ ap₂ (λ p q. f (point_at p d) (point_at q d)) e g

-- a point is at most another where the other is not before it
pub at_most : {x : Bool} {p q r s : Point} (d : ℤ) → p ≡ r → q ≡ s → x ≡ not (int_lt (point_at q d) (point_at p d)) → x ≡ int_le (point_at r d) (point_at s d)
at_most {p = p} {q} d e g h = of_same int_le d e g (h ∙ int_le-not (point_at p d) (point_at q d))

-- a period is nonempty where its start is before its end
pub nonempty : {x : Bool} {p q : Point} (i : Period) (d : ℤ) → p ≡ i.start → q ≡ i.end → x ≡ int_lt (point_at p d) (point_at q d) → x ≡ not (is_empty_period (period_at i d))
nonempty i d e g h = of_same int_lt d e g h ∙ before (point_at i.start d) (point_at i.end d)
  where
    before : (s e : ℤ) → int_lt s e ≡ not (int_le e s)
    before s e = grind (arith, ints)

-- what holds on every day adds nothing
pub alone : {x y u : Bool} → x ≡ y → u ≡ true → (x && u) ≡ y
alone {y = y} e t = ap₂ (λ a b. a && b) e t ∙ whole y
  where
    whole : (b : Bool) → (b && true) ≡ b
    whole true = refl
    whole false = refl

-- four answers, the first two and the last two together
pub paired : {x y p q : Bool} (u v : Bool) → x ≡ p → y ≡ q → (x && y && u && v) ≡ (p && q && (u && v))
paired {p = p} {q} u v e g = ap₂ (λ x y. x && y && u && v) e g ∙ together p q
  where
    together : (p q : Bool) → (p && q && u && v) ≡ (p && q && (u && v))
    together true true = refl
    together true false = refl
    together false q = refl
