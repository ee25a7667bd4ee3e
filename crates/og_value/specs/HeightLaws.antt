-- Of two values, that with the lesser height comes first.
use Rattle.std.proofs.Common.{◌≡◌, ◌+◌, ◌*◌, ◌^◌, ◌<◌, ◌≤◌, ◌<ℤ◌, ℕ, zero, suc, ℤ, List, [], ◌∷◌, Ordering, Less, Equal, Greater, FitsSigned, refl, sym, ap, subst, ◌∙◌, arith}
use Rattle.std.proofs.lemmas.Int.{ints}
use Rattle.std.specs.Int.{w64}
use Rattle.std.specs.Cmp.{ranks}
use Rattle.std.proofs.lemmas.Cmp.{int_ranked}
use Rattle.std.specs.Cmp.Lexicographic.{slice_cmp}
use Rattle.std.specs.Ordering.{MatchOrdering, int_cmp, nat_cmp, ordering_then}
use Rattle.og_value.specs.Exact.{values_ordered}
use Rattle.og_value.specs.Heights.{AreBytes, lifted, spelt, kind_height, HasRange, IsListHeight, IsValueHeight}
use Rattle.og_value.specs.Order.{rank, value_order, row_order}
use Rattle.og_value.specs.contracts.value.FixedValueOrd.TheImpl as derived
use Rattle.og_value.specs.declared.value.FixedValue.{FixedValue}
use Rattle.og_value.specs.declared.value.FixedValue.TheVariants.{Int, Text, Date, Period}

-- no bytes spell less than missing ones
spelt-least : (k m n : ℕ) (ys : List ℕ) → m ≤ n → spelt k m [] ≤ spelt k n ys
unfolding spelt
spelt-least zero m n ys le = le
spelt-least (suc k) m n [] le = spelt-least k (m * 256) (n * 256) [] (omega (arith, le))
spelt-least (suc k) m n (y ∷ ys) le = spelt-least k (m * 256) (n * 256 + y) ys (omega (arith, le))

-- what is spelt after a lesser number is less
pub spelt-rises : (k m n : ℕ) (xs ys : List ℕ) → AreBytes xs → m < n → spelt k m xs < spelt k n ys
unfolding spelt
spelt-rises zero m n xs ys h lt = lt
spelt-rises (suc k) m n [] [] h lt = spelt-rises k (m * 256) (n * 256) [] [] h (omega (arith, lt))
spelt-rises (suc k) m n [] (y ∷ ys) h lt = spelt-rises k (m * 256) (n * 256 + y) [] ys h (omega (arith, lt))
spelt-rises (suc k) m n (x ∷ xs) [] h lt =
    let small : x < 256 = h 0 in spelt-rises k (m * 256 + x) (n * 256) xs [] (λ i. h (suc i)) (omega (arith, lt, small))
spelt-rises (suc k) m n (x ∷ xs) (y ∷ ys) h lt =
    let small : x < 256 = h 0 in spelt-rises k (m * 256 + x) (n * 256 + y) xs ys (λ i. h (suc i)) (omega (arith, lt, small))

-- bytes that spell less come first
pub spelt_first : (k n : ℕ) (xs ys : List ℕ) → AreBytes xs → AreBytes ys → spelt k n xs < spelt k n ys → slice_cmp nat_cmp xs ys ≡ Less
unfolding spelt
spelt_first zero n xs ys g h lt = absurd (omega (arith, lt))
spelt_first (suc k) n [] [] g h lt = absurd (omega (arith, lt))
spelt_first (suc k) n [] (y ∷ ys) g h lt = refl
spelt_first (suc k) n (x ∷ xs) [] g h lt =
    let least = spelt-least k (n * 256) (n * 256 + x) xs (omega arith) in absurd (omega (arith, lt, least))
spelt_first (suc k) n (x ∷ xs) (y ∷ ys) g h lt =
    by (spelt_first k (n * 256 + x) xs ys (λ i. g (suc i)) (λ i. h (suc i))) (nat_cmp x y) refl (ranks x y)
  where
    by : (spelt k (n * 256 + x) xs < spelt k (n * 256 + x) ys → slice_cmp nat_cmp xs ys ≡ Less) → (r : Ordering) → nat_cmp x y ≡ r → MatchOrdering r (x < y) (x ≡ y) (y < x)
        → slice_cmp nat_cmp (x ∷ xs) (y ∷ ys) ≡ Less
    by rest Less e l = ap (λ o. ordering_then o (slice_cmp nat_cmp xs ys)) e
    by rest Equal e l =
        let same : x ≡ y = l in
        ap (λ o. ordering_then o (slice_cmp nat_cmp xs ys)) e ∙ rest (subst (λ c. spelt k (n * 256 + x) xs < spelt k (n * 256 + c) ys) (sym same) lt)
    by rest Greater e l =
        let over : y < x = l in
        let up = spelt-rises k (n * 256 + y) (n * 256 + x) ys xs (λ i. h (suc i)) (omega (arith, over)) in absurd (omega (arith, lt, up))

-- a number that is lifted less comes first
lifted_first : (m n : ℤ) → FitsSigned w64 m → FitsSigned w64 n → lifted m < lifted n → int_cmp m n ≡ Less
lifted_first m n f g lt = by (int_cmp m n) refl (int_ranked m n (int_cmp m n) refl)
  where
    by : (r : Ordering) → int_cmp m n ≡ r → MatchOrdering r (m <ℤ n) (m ≡ n) (n <ℤ m) → int_cmp m n ≡ Less
    by Less e l = e
    by Equal e l = let same : m ≡ n = l in absurd (omega (arith, subst (λ k. lifted m < lifted k) (sym same) lt))
    by Greater e l = let over : n <ℤ m = l in grind (arith, ints, f, g, lt, over)

-- a value with a lesser height than another of its kind comes first
kind_first : (v w : FixedValue) → rank v ≡ rank w → HasRange v → HasRange w → kind_height v < kind_height w → value_order v w ≡ Less
kind_first (Int a) (Int b) e f g lt = lifted_first a b f g lt
kind_first (Int a) (Text u) e f g lt = cc
kind_first (Int a) (Date b) e f g lt = cc
kind_first (Int a) (Period q) e f g lt = cc
kind_first (Text t) (Int b) e f g lt = cc
kind_first (Text t) (Text u) e f g lt = spelt_first 14 0 t u f g lt
kind_first (Text t) (Date b) e f g lt = cc
kind_first (Text t) (Period q) e f g lt = cc
kind_first (Date a) (Int b) e f g lt = cc
kind_first (Date a) (Text u) e f g lt = cc
kind_first (Date a) (Date b) e f g lt = lifted_first a b f g lt
kind_first (Date a) (Period q) e f g lt = cc
kind_first (Period p) (Int b) e f g lt = cc
kind_first (Period p) (Text u) e f g lt = cc
kind_first (Period p) (Date b) e f g lt = cc
kind_first (Period p) (Period q) e f g lt = ap (λ o. ordering_then o (int_cmp p.end q.end)) (lifted_first p.start q.start f g lt)

-- a value of a lower kind than another comes first
rank_first : (v w : FixedValue) → rank v < rank w → value_order v w ≡ Less
rank_first (Int a) (Int b) lt = absurd (omega (arith, lt))
rank_first (Int a) (Text u) lt = refl
rank_first (Int a) (Date b) lt = refl
rank_first (Int a) (Period q) lt = refl
rank_first (Text t) (Int b) lt = absurd (omega (arith, lt))
rank_first (Text t) (Text u) lt = absurd (omega (arith, lt))
rank_first (Text t) (Date b) lt = refl
rank_first (Text t) (Period q) lt = refl
rank_first (Date a) (Int b) lt = absurd (omega (arith, lt))
rank_first (Date a) (Text u) lt = absurd (omega (arith, lt))
rank_first (Date a) (Date b) lt = absurd (omega (arith, lt))
rank_first (Date a) (Period q) lt = refl
rank_first (Period p) (Int b) lt = absurd (omega (arith, lt))
rank_first (Period p) (Text u) lt = absurd (omega (arith, lt))
rank_first (Period p) (Date b) lt = absurd (omega (arith, lt))
rank_first (Period p) (Period q) lt = absurd (omega (arith, lt))

-- heights among the values of a kind are below what lies between two kinds
kind_height-below : (v : FixedValue) → HasRange v → kind_height v < 2 ^ 112
unfolding spelt
kind_height-below (Int n) f = omega arith
kind_height-below (Text t) f = spelt-rises 14 0 1 t [] f (omega arith)
kind_height-below (Date a) f = omega arith
kind_height-below (Period p) f = omega arith

-- a value with a lesser height than another comes first
value_first : (v w : FixedValue) (m n : ℕ) → IsValueHeight v m → IsValueHeight w n → m < n → value_order v w ≡ Less
value_first v w m n f g lt = by (nat_cmp (rank v) (rank w)) refl (ranks (rank v) (rank w))
  where
    by : (r : Ordering) → nat_cmp (rank v) (rank w) ≡ r → MatchOrdering r (rank v < rank w) (rank v ≡ rank w) (rank w < rank v) → value_order v w ≡ Less
    by Less e l = rank_first v w l
    by Equal e l =
        let same : rank v ≡ rank w = l in
        kind_first v w same f.0 g.0 (omega (arith, subst (λ r. m ≡ r * 2 ^ 112 + kind_height v) same f.1, g.1, lt))
    by Greater e l = let over : rank w < rank v = l in absurd (omega (arith, f.1, g.1, lt, over, kind_height-below w g.0))

-- so it does in the order that values have
pub values_first : (v w : FixedValue) (m n : ℕ) → IsValueHeight v m → IsValueHeight w n → m < n → derived.cmp-value.it v w ≡ Less
values_first v w m n f g lt = values_ordered v w ∙ value_first v w m n f g lt

-- a row with a lesser height than another comes first
pub rows_first : (xs ys : List FixedValue) (m n : ℕ) → IsListHeight IsValueHeight xs m → IsListHeight IsValueHeight ys n → m < n → row_order xs ys ≡ Less
rows_first [] [] m n f g lt = absurd (omega (arith, f, g, lt))
rows_first [] (y ∷ ys) m n f g lt = refl
rows_first (x ∷ xs) [] m n f g lt = absurd (omega (arith, g, lt))
rows_first (x ∷ xs) (y ∷ ys) m n f g lt = ap (λ o. ordering_then o (row_order xs ys)) (value_first x y m n f g lt)
