-- Numbers between bounds.
use Rattle.std.proofs.Common.{◌≡◌, ◌&&◌, ◌≤ℤ◌, ℤ, false, List, int_le, arith}
use Rattle.std.specs.BTreeSet.{insert_key}
use Rattle.std.specs.List.{list_any}
use Rattle.std.specs.Ordering.{eq_by_cmp, int_cmp}
use Rattle.std.proofs.lemmas.Int.{ints}
use Rattle.std.proofs.lemmas.List.Elements.{All-weaker}
use Rattle.std.proofs.lemmas.List.Folds.{list_any_none}
use Rattle.std.proofs.lemmas.Map.Views.{All-insert_key}
use Rattle.og_reduce.specs.Numbers.{AreBetween}

-- bounds of some numbers that are bounds of one more are bounds of all
pub between_more : (least greatest l g n : ℤ) (numbers : List ℤ) → AreBetween least greatest numbers → (l ≤ℤ least) × (l ≤ℤ n) → (greatest ≤ℤ g) × (n ≤ℤ g)
    → AreBetween l g (insert_key int_cmp numbers n)
between_more least greatest l g n numbers all low high =
    All-insert_key int_cmp n (λ m. (l ≤ℤ m) × (m ≤ℤ g)) numbers
    (All-weaker (λ m. (least ≤ℤ m) × (m ≤ℤ greatest)) (λ m. (l ≤ℤ m) × (m ≤ℤ g)) (λ m is. wider m is) numbers all) (low.1, high.1)
  where
    wider : (m : ℤ) → (least ≤ℤ m) × (m ≤ℤ greatest) → (l ≤ℤ m) × (m ≤ℤ g)
    wider m is = let a = low.0 in let b = high.0 in grind (arith, ints)

-- a number that does not lie between bounds of some is none of them
pub not_between : (least greatest n : ℤ) (numbers : List ℤ) → AreBetween least greatest numbers → (int_le least n && int_le n greatest) ≡ false → list_any (eq_by_cmp int_cmp n) numbers ≡ false
not_between least greatest n numbers all out =
    list_any_none (eq_by_cmp int_cmp n) numbers (All-weaker (λ m. (least ≤ℤ m) × (m ≤ℤ greatest)) (λ m. eq_by_cmp int_cmp n m ≡ false) (λ m is. another m is) numbers all)
  where
    another : (m : ℤ) → (least ≤ℤ m) × (m ≤ℤ greatest) → eq_by_cmp int_cmp n m ≡ false
    another m is = let a = is.0 in let b = is.1 in let c = out in grind (arith, ints)
