-- Sizes, where the greatest number stands for each that is more.
use Rattle.std.proofs.Common.{◌≡◌, ◌≤◌, inl, inr, ◌*◌, ℕ, zero, suc, min, mul_comm, ap, sym, ◌∙◌, arith}
use Rattle.std.proofs.Math.Nat.{min-eq_left, min-eq_right}
use Rattle.std.proofs.lemmas.Bool.{cases_lt}
use Rattle.std.proofs.lemmas.Nat.{mul-le}
use Rattle.og_value.specs.declared.term.SetOp.{SetOp}
use Rattle.og_value.specs.declared.term.SetOp.TheVariants as op
use Rattle.og_query.specs.Sizes.{combined_size}

-- a product of what is no less than a number, and of what is not none, is no less
product-above : (m k most : ℕ) → most ≤ m → most ≤ m * suc k
product-above m k most above = once (m * suc k) (mul-le most 1 m (suc k) above (omega arith))
  where
    once : (n : ℕ) → most * 1 ≤ n → most ≤ n
    once n h = omega (arith, h)

-- a product whose first factor is at most a number
first-capped : (m n most : ℕ) → min (min m most * n) most ≡ min (m * n) most
first-capped m n most =
    elim (cases_lt m most) [
      | inl below ↦ ap (λ k. min (k * n) most) (min-eq_left (omega (arith, below)))
      | inr above ↦ over n above
    ]
  where
    over : (n : ℕ) → most ≤ m → min (min m most * n) most ≡ min (m * n) most
    over zero above = omega arith
    over (suc k) above = min-eq_right (product-above (min m most) k most (omega (arith, above))) ∙ sym (min-eq_right (product-above m k most above))

-- a product of numbers that are at most another
pub product-capped : (m n most : ℕ) → min (min m most * min n most) most ≡ min (m * n) most
product-capped m n most =
    first-capped m (min n most) most
    ∙ ap (λ k. min k most) (mul_comm m (min n most))
    ∙ first-capped n m most
    ∙ ap (λ k. min k most) (mul_comm n m)

-- and the size of two answers
pub combined-capped : (one : SetOp) (m n most : ℕ) → min (combined_size one (min m most) (min n most)) most ≡ min (combined_size one m n) most
combined-capped op.Union m n most = omega arith
combined-capped op.Except m n most = omega arith
combined-capped op.Intersect m n most = omega arith
