-- Comparisons of two days, by the tests that points have.
use Rattle.std.proofs.Common.{◌≡◌, ℤ, not, int_lt, arith}
use Rattle.std.proofs.lemmas.Int.{ints}
use Rattle.std.specs.Ordering.{int_cmp, int_eq}
use Rattle.og_value.specs.declared.term.Cmp.TheVariants.{Ne, Lt, Le, Gt, Ge}
use Rattle.og_query.specs.Conditions.{allows}

-- `<>` where the days are not the same
pub differ : (a b : ℤ) → not (int_eq a b) ≡ allows Ne (int_cmp a b)
differ a b = grind (arith, ints)

-- `<` where the first is before the second
pub before : (a b : ℤ) → int_lt a b ≡ allows Lt (int_cmp a b)
before a b = grind (arith, ints)

-- `<=` where the second is not before the first
pub at_most : (a b : ℤ) → not (int_lt b a) ≡ allows Le (int_cmp a b)
at_most a b = grind (arith, ints)

-- `>` where the second is before the first
pub after : (a b : ℤ) → int_lt b a ≡ allows Gt (int_cmp a b)
after a b = grind (arith, ints)

-- `>=` where the first is not before the second
pub at_least : (a b : ℤ) → not (int_lt a b) ≡ allows Ge (int_cmp a b)
at_least a b = grind (arith, ints)

-- the comparisons that the tests do not say by themselves
pub ruleset point_comparisons = (differ, before, at_most, after, at_least)
