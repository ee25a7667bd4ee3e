-- What bytes spell, place by place.
use Rattle.std.proofs.Common.{◌≡◌, ◌+◌, ◌*◌, ◌^◌, ◌<◌, ◌≤◌, ℕ, zero, suc, List, [], ◌∷◌, Ordering, Less, Equal, Greater, length, take, refl, sym, ap, ◌∙◌, slice_index, arith}
use Rattle.std.specs.Cmp.{nat_cmp_is, ranks}
use Rattle.std.specs.Cmp.Lexicographic.{slice_cmp}
use Rattle.std.specs.Int.{w64, from_be_bytes}
use Rattle.std.specs.Ordering.{MatchOrdering, nat_cmp, ordering_then}
use Rattle.og_value.specs.HeightLaws.{spelt-rises}
use Rattle.og_value.specs.Heights.{AreBytes, spelt}

-- the number that the first k places spell after n, by what stands at each place
spelt_at : ℕ → ℕ → (ℕ → ℕ) → ℕ
spelt_at zero n at = n
spelt_at (suc k) n at = spelt_at k (n * 256 + at 0) (λ i. at (suc i))

-- it is the number that the bytes spell
spelt-places : (k n : ℕ) (bs : List ℕ) → spelt k n bs ≡ spelt_at k n (slice_index bs)
unfolding spelt spelt_at
spelt-places zero n bs = refl
spelt-places (suc k) n [] = spelt-places k (n * 256) [] ∙ ap (λ m. spelt_at k m (λ i. slice_index [] (suc i))) (omega arith)
spelt-places (suc k) n (b ∷ bs) = spelt-places k (n * 256 + b) bs

-- two words of eight and of six bytes spell what the 14 bytes do
pub spelt-words : (bs : List ℕ) → let at = slice_index bs in
    from_be_bytes w64 (at 0 ∷ at 1 ∷ at 2 ∷ at 3 ∷ at 4 ∷ at 5 ∷ at 6 ∷ at 7 ∷ []) * 2 ^ 48 + from_be_bytes w64 (0 ∷ 0 ∷ at 8 ∷ at 9 ∷ at 10 ∷ at 11 ∷ at 12 ∷ at 13 ∷ [])
    ≡ spelt 14 0 bs
unfolding spelt_at
spelt-words bs = omega arith ∙ sym (spelt-places 14 0 bs)

-- bytes spell what their front does, where 0 stands past it
pub spelt-take : (k n m : ℕ) (bs : List ℕ) → ((i : ℕ) → m ≤ i → slice_index bs i ≡ 0) → spelt k n (take m bs) ≡ spelt k n bs
unfolding spelt
spelt-take zero n m bs past = refl
spelt-take (suc k) n zero [] past = refl
spelt-take (suc k) n zero (b ∷ bs) past =
    let none : n * 256 ≡ n * 256 + b = omega (arith, past 0 (omega arith)) in
    ap (λ s. spelt k s []) none ∙ spelt-take k (n * 256 + b) zero bs (λ i le. past (suc i) (omega arith))
spelt-take (suc k) n (suc m) [] past = refl
spelt-take (suc k) n (suc m) (b ∷ bs) past = spelt-take k (n * 256 + b) m bs (λ i le. past (suc i) (omega (arith, le)))

-- numbers are in the order in which those before them are
counted : (m n : ℕ) (r : Ordering) → MatchOrdering r (m < n) (m ≡ n) (n < m) → r ≡ nat_cmp (suc m) (suc n)
counted m n Less l = let under : m < n = l in nat_cmp_is (suc m) (suc n) Less (omega (arith, under))
counted m n Equal l = let same : m ≡ n = l in nat_cmp_is (suc m) (suc n) Equal (ap (λ k. suc k) same)
counted m n Greater l = let over : n < m = l in nat_cmp_is (suc m) (suc n) Greater (omega (arith, over))

-- no more than k bytes that spell the same are in the order of their numbers
pub spelt-same : (k n : ℕ) (xs ys : List ℕ) → AreBytes xs → AreBytes ys → length xs ≤ k → length ys ≤ k → spelt k n xs ≡ spelt k n ys
    → slice_cmp nat_cmp xs ys ≡ nat_cmp (length xs) (length ys)
unfolding spelt
spelt-same k n [] [] g h p q e = nat_cmp_is 0 0 Equal refl
spelt-same k n [] (y ∷ ys) g h p q e = nat_cmp_is 0 (suc (length ys)) Less (omega arith)
spelt-same k n (x ∷ xs) [] g h p q e = nat_cmp_is (suc (length xs)) 0 Greater (omega arith)
spelt-same zero n (x ∷ xs) (y ∷ ys) g h p q e = absurd (omega (arith, p))
spelt-same (suc k) n (x ∷ xs) (y ∷ ys) g h p q e =
    by (spelt-same k (n * 256 + x) xs ys (λ i. g (suc i)) (λ i. h (suc i)) (omega (arith, p)) (omega (arith, q))) (nat_cmp x y) refl (ranks x y)
  where
    by : (spelt k (n * 256 + x) xs ≡ spelt k (n * 256 + x) ys → slice_cmp nat_cmp xs ys ≡ nat_cmp (length xs) (length ys)) → (r : Ordering) → nat_cmp x y ≡ r
        → MatchOrdering r (x < y) (x ≡ y) (y < x) → slice_cmp nat_cmp (x ∷ xs) (y ∷ ys) ≡ nat_cmp (suc (length xs)) (suc (length ys))
    by rest Less r l =
        let under : x < y = l in
        let up = spelt-rises k (n * 256 + x) (n * 256 + y) xs ys (λ i. g (suc i)) (omega (arith, under)) in absurd (omega (arith, e, up))
    by rest Equal r l =
        let same : x ≡ y = l in
        ap (λ o. ordering_then o (slice_cmp nat_cmp xs ys)) r ∙ rest (e ∙ ap (λ c. spelt k (n * 256 + c) ys) (sym same))
        ∙ counted (length xs) (length ys) (nat_cmp (length xs) (length ys)) (ranks (length xs) (length ys))
    by rest Greater r l =
        let over : y < x = l in
        let up = spelt-rises k (n * 256 + y) (n * 256 + x) ys xs (λ i. h (suc i)) (omega (arith, over)) in absurd (omega (arith, e, up))
