-- Places of the elements of a list: those at which a test holds, and the elements at none of some places.
use Rattle.std.proofs.Common.{◌≡◌, ◌≢◌, ◌==◌, ◌<◌, ◌≤◌, ◌+◌, ◌++◌, ℕ, zero, suc, Bool, true, false, not, if◌then◌else◌, List, [], ◌∷◌, length, filter, map, get_or, set, swap, take, drop, refl, sym, ap, ap₂, subst, ◌∙◌, append-nil, arith}
use lib.Seq.{drop-set-lt, take-set-le, take-suc-set}
use Rattle.std.specs.List.{All}
use Rattle.std.proofs.lemmas.Bool.{eq-eqb, eqb-false, eqb-true, ne_eqb}
use Rattle.std.proofs.lemmas.List.{append_assoc, drop_all, get_or_default, length-take-le, set-set, take_more}
use Rattle.std.proofs.lemmas.List.Edits.{length-swap}
use Rattle.std.proofs.lemmas.List.Elements.{All-cons, All-head, All-nil, All-tail}
use Rattle.og_rel.specs.Places.{ArePlaces, AreRising, others_at, others_from, places, places_from}

-- places that rise from a greater one on rise from a lesser on
pub rising-lower : (i j : ℕ) (at : List ℕ) (end : ℕ) → i ≤ j → AreRising j at end → AreRising i at end
rising-lower i j [] end less are = tt
rising-lower i j (k ∷ at) end less are = (omega (arith, less, are.0), are.1, are.2)

-- and before a greater end
rising-longer : (i : ℕ) (at : List ℕ) (m n : ℕ) → m ≤ n → AreRising i at m → AreRising i at n
rising-longer i [] m n less are = tt
rising-longer i (k ∷ at) m n less are = (are.0, omega (arith, less, are.1), rising-longer (suc k) at m n less are.2)

-- places of a list are places of a longer one
pub are_places-more : (at : List ℕ) (m n : ℕ) → m ≤ n → ArePlaces at m → ArePlaces at n
are_places-more at m n less are = rising-longer 0 at m n less are

-- places that rise from one on that is not the first of them rise from the next on
pub rising-next : (i k : ℕ) (at : List ℕ) (end : ℕ) → (i == k) ≡ false → AreRising i (k ∷ at) end → AreRising (suc i) (k ∷ at) end
rising-next i k at end other are = (next are.0, are.1, are.2)
  where
    next : i ≤ k → suc i ≤ k
    next less = let apart = eqb-false i k other in omega (arith, apart, less)

-- a number and nothing
pub and_nothing : (k : ℕ) → k ≡ k + 0
and_nothing k = omega arith

-- one more in either place
pub one_across : (k m : ℕ) → suc k + m ≡ k + suc m
one_across k m = omega arith

-- nothing and a number
pub nothing_and : (k : ℕ) → 0 + k ≡ k
nothing_and k = omega arith

module _ {X : Type 0} where
  -- without places all elements are left
  pub others-nowhere : (i : ℕ) (xs : List X) → others_from i [] xs ≡ xs
  others-nowhere i [] = refl
  others-nowhere i (x ∷ xs) = refl

  pub others-none : (xs : List X) → others_at [] xs ≡ xs
  others-none xs = others-nowhere 0 xs

  -- the first element, where its place is the first one
  pub others-out : (i k : ℕ) (at : List ℕ) (x : X) (xs : List X) → (i == k) ≡ true → others_from i (k ∷ at) (x ∷ xs) ≡ others_from (suc i) at xs
  others-out i k at x xs is = ap (λ b. if b then others_from (suc i) at xs else x ∷ others_from (suc i) (k ∷ at) xs) is

  -- the first element, where all places are behind it
  pub others-kept : (i : ℕ) (at : List ℕ) (end : ℕ) (x : X) (xs : List X) → AreRising (suc i) at end → others_from i at (x ∷ xs) ≡ x ∷ others_from (suc i) at xs
  others-kept i [] end x xs are = ap (λ l. x ∷ l) (sym (others-nowhere (suc i) xs))
  others-kept i (k ∷ at) end x xs are = ap (λ b. if b then others_from (suc i) at xs else x ∷ others_from (suc i) (k ∷ at) xs) (ne_eqb i k (λ is. omega (arith, is, are.0)))

  -- the first elements, where all places are behind them
  pub others-front : (n i : ℕ) (at : List ℕ) (end : ℕ) (xs : List X) → AreRising (i + n) at end → others_from i at xs ≡ take n xs ++ others_from (i + n) at (drop n xs)
  others-front zero i at end xs are = ap (λ j. others_from j at xs) (and_nothing i)
  others-front (suc n) i at end [] are = refl
  others-front (suc n) i at end (x ∷ xs) are =
      others-kept i at end x xs (rising-lower (suc i) (i + suc n) at end (omega arith) are)
      ∙ ap (λ l. x ∷ l)
      (others-front n (suc i) at end xs (subst (λ j. AreRising j at end) (sym (one_across i n)) are) ∙ ap (λ j. take n xs ++ others_from j at (drop n xs)) (one_across i n))

module _ {X : Type 0} (holds : X → Bool) where
  -- the places at which a test holds rise
  places-rise : (i : ℕ) (xs : List X) → AreRising i (places_from i holds xs) (i + length xs)
  places-rise i [] = tt
  places-rise i (x ∷ xs) = at (holds x) (subst (AreRising (suc i) (places_from (suc i) holds xs)) (one_across i (length xs)) (places-rise (suc i) xs))
    where
      at : (b : Bool) → AreRising (suc i) (places_from (suc i) holds xs) (i + length (x ∷ xs))
          → AreRising i (if b then i ∷ places_from (suc i) holds xs else places_from (suc i) holds xs) (i + length (x ∷ xs))
      at true rest = (omega arith, omega arith, rest)
      at false rest = rising-lower i (suc i) (places_from (suc i) holds xs) (i + length (x ∷ xs)) (omega arith) rest

  -- they are places of the list
  pub places-are : (xs : List X) → ArePlaces (places holds xs) (length xs)
  places-are xs = subst (AreRising 0 (places holds xs)) (nothing_and (length xs)) (places-rise 0 xs)

  -- of one element more
  places_from-push : (i : ℕ) (xs : List X) (x : X) → places_from i holds (xs ++ x ∷ []) ≡ places_from i holds xs ++ (if holds x then (i + length xs) ∷ [] else [])
  places_from-push i [] x = ap (λ j. if holds x then j ∷ [] else []) (and_nothing i)
  places_from-push i (y ∷ ys) x =
      at (holds y) (places_from-push (suc i) ys x ∙ ap (λ j. places_from (suc i) holds ys ++ (if holds x then j ∷ [] else [])) (one_across i (length ys)))
    where
      at : (b : Bool) → places_from (suc i) holds (ys ++ x ∷ []) ≡ places_from (suc i) holds ys ++ (if holds x then (i + suc (length ys)) ∷ [] else [])
          → (if b then i ∷ places_from (suc i) holds (ys ++ x ∷ []) else places_from (suc i) holds (ys ++ x ∷ []))
          ≡ (if b then i ∷ places_from (suc i) holds ys else places_from (suc i) holds ys) ++ (if holds x then (i + suc (length ys)) ∷ [] else [])
      at true rest = ap (λ l. i ∷ l) rest
      at false rest = rest

  -- of the first elements and one more
  places-more : (xs : List X) (i : ℕ) (d : X) → i < length xs → places holds (take (i + 1) xs) ≡ places holds (take i xs) ++ (if holds (get_or xs i d) then i ∷ [] else [])
  places-more xs i d there =
      ap (places holds) (take_more xs i d there) ∙ places_from-push 0 (take i xs) (get_or xs i d)
      ∙ ap (λ j. places holds (take i xs) ++ (if holds (get_or xs i d) then j ∷ [] else [])) (nothing_and (length (take i xs)) ∙ length-take-le i xs (omega (arith, there)))

  -- where the test holds at that
  pub places-in : (xs : List X) (i : ℕ) (d : X) → i < length xs → holds (get_or xs i d) ≡ true → places holds (take (i + 1) xs) ≡ places holds (take i xs) ++ i ∷ []
  places-in xs i d there is = places-more xs i d there ∙ ap (λ b. places holds (take i xs) ++ (if b then i ∷ [] else [])) is

  -- and where it does not
  pub places-not : (xs : List X) (i : ℕ) (d : X) → i < length xs → holds (get_or xs i d) ≡ false → places holds (take (i + 1) xs) ≡ places holds (take i xs)
  places-not xs i d there is = places-more xs i d there ∙ ap (λ b. places holds (take i xs) ++ (if b then i ∷ [] else [])) is ∙ append-nil (places holds (take i xs))

  others-places_from : (i : ℕ) (xs : List X) → others_from i (places_from i holds xs) xs ≡ filter (λ x. not (holds x)) xs
  others-places_from i [] = refl
  others-places_from i (x ∷ xs) = at (holds x) (others-places_from (suc i) xs)
    where
      at : (b : Bool) → others_from (suc i) (places_from (suc i) holds xs) xs ≡ filter (λ x. not (holds x)) xs
          → others_from i (if b then i ∷ places_from (suc i) holds xs else places_from (suc i) holds xs) (x ∷ xs)
          ≡ (if not b then x ∷ filter (λ x. not (holds x)) xs else filter (λ x. not (holds x)) xs)
      at true rest = others-out i i (places_from (suc i) holds xs) x xs (eq-eqb i i refl) ∙ rest
      at false rest = others-kept i (places_from (suc i) holds xs) (suc i + length xs) x xs (places-rise (suc i) xs) ∙ ap (λ l. x ∷ l) rest

  -- the elements at none of them are those at which it does not hold
  pub others-places : (xs : List X) → others_at (places holds xs) xs ≡ filter (λ x. not (holds x)) xs
  others-places xs = others-places_from 0 xs

-- places behind the first, where it is the first one and where it is not
rest_out : (i k n : ℕ) (at : List ℕ) → (i == k) ≡ true → AreRising i (k ∷ at) (i + suc n) → AreRising (suc i) at (suc i + n)
rest_out i k n at is are = subst (AreRising (suc i) at) (sym (one_across i n)) (subst (λ j. AreRising (suc j) at (i + suc n)) (sym (eqb-true i k is)) are.2)

rest_kept : (i k n : ℕ) (at : List ℕ) → (i == k) ≡ false → AreRising i (k ∷ at) (i + suc n) → AreRising (suc i) (k ∷ at) (suc i + n)
rest_kept i k n at other are = subst (AreRising (suc i) (k ∷ at)) (sym (one_across i n)) (rising-next i k at (i + suc n) other are)

module _ {X : Type 0} where
  others_from-append : (i : ℕ) (at : List ℕ) (xs ys : List X) → AreRising i at (i + length xs) → others_from i at (xs ++ ys) ≡ others_from i at xs ++ ys
  others_from-append i [] xs ys are = others-nowhere i (xs ++ ys) ∙ ap (λ l. l ++ ys) (sym (others-nowhere i xs))
  others_from-append i (k ∷ at) [] ys are = absurd (omega (arith, are.0, are.1))
  others_from-append i (k ∷ at) (x ∷ xs) ys are = by (i == k) refl (others_from-append (suc i) at xs ys) (others_from-append (suc i) (k ∷ at) xs ys)
    where
      by : (b : Bool) → (i == k) ≡ b → (AreRising (suc i) at (suc i + length xs) → others_from (suc i) at (xs ++ ys) ≡ others_from (suc i) at xs ++ ys)
          → (AreRising (suc i) (k ∷ at) (suc i + length xs) → others_from (suc i) (k ∷ at) (xs ++ ys) ≡ others_from (suc i) (k ∷ at) xs ++ ys)
          → (if b then others_from (suc i) at (xs ++ ys) else x ∷ others_from (suc i) (k ∷ at) (xs ++ ys)) ≡ (if b then others_from (suc i) at xs else x ∷ others_from (suc i) (k ∷ at) xs) ++ ys
      by true is out kept = out (rest_out i k (length xs) at is are)
      by false is out kept = ap (λ l. x ∷ l) (kept (rest_kept i k (length xs) at is are))

  -- where all places are in the first list, the second is left whole
  pub others-append : (at : List ℕ) (xs ys : List X) → ArePlaces at (length xs) → others_at at (xs ++ ys) ≡ others_at at xs ++ ys
  others-append at xs ys are = others_from-append 0 at xs ys (subst (AreRising 0 at) (sym (nothing_and (length xs))) are)

  length-others_from : (i : ℕ) (at : List ℕ) (xs : List X) → AreRising i at (i + length xs) → length (others_from i at xs) + length at ≡ length xs
  length-others_from i [] xs are = sym (and_nothing (length (others_from i [] xs))) ∙ ap length (others-nowhere i xs)
  length-others_from i (k ∷ at) [] are = absurd (omega (arith, are.0, are.1))
  length-others_from i (k ∷ at) (x ∷ xs) are = by (i == k) refl (length-others_from (suc i) at xs) (length-others_from (suc i) (k ∷ at) xs)
    where
      by : (b : Bool) → (i == k) ≡ b → (AreRising (suc i) at (suc i + length xs) → length (others_from (suc i) at xs) + length at ≡ length xs)
          → (AreRising (suc i) (k ∷ at) (suc i + length xs) → length (others_from (suc i) (k ∷ at) xs) + length (k ∷ at) ≡ length xs)
          → length (if b then others_from (suc i) at xs else x ∷ others_from (suc i) (k ∷ at) xs) + suc (length at) ≡ suc (length xs)
      by true is out kept = let rest = out (rest_out i k (length xs) at is are) in omega (arith, rest)
      by false is out kept = let rest = kept (rest_kept i k (length xs) at is are) in omega (arith, rest)

  -- as many are left as there are elements but places
  pub length-others : (at : List ℕ) (xs : List X) → ArePlaces at (length xs) → length (others_at at xs) + length at ≡ length xs
  length-others at xs are = length-others_from 0 at xs (subst (AreRising 0 at) (sym (nothing_and (length xs))) are)

  All-others_from : (P : X → Type 0) (i : ℕ) (at : List ℕ) (xs : List X) → All P xs → All P (others_from i at xs)
  All-others_from P i [] xs all = subst (All P) (sym (others-nowhere i xs)) all
  All-others_from P i (k ∷ at) [] all = All-nil P
  All-others_from P i (k ∷ at) (x ∷ xs) all =
      by (i == k) (All-others_from P (suc i) at xs (All-tail P x xs all))
      (All-cons P x (others_from (suc i) (k ∷ at) xs) (All-head P x xs all) (All-others_from P (suc i) (k ∷ at) xs (All-tail P x xs all)))
    where
      by : (b : Bool) → All P (others_from (suc i) at xs) → All P (x ∷ others_from (suc i) (k ∷ at) xs)
          → All P (if b then others_from (suc i) at xs else x ∷ others_from (suc i) (k ∷ at) xs)
      by true out kept = out
      by false out kept = kept

  -- what all have those have that are left
  pub All-others : (P : X → Type 0) (at : List ℕ) (xs : List X) → All P xs → All P (others_at at xs)
  All-others P at xs all = All-others_from P 0 at xs all

  -- what is made of those that are left is left of what is made of all
  map-others_from : {Y : Type 0} (f : X → Y) (i : ℕ) (at : List ℕ) (xs : List X) → map f (others_from i at xs) ≡ others_from i at (map f xs)
  map-others_from f i at [] = refl
  map-others_from f i [] (x ∷ xs) = refl
  map-others_from f i (k ∷ at) (x ∷ xs) =
      elim (i == k) as (λ b. map f (if b then others_from (suc i) at xs else x ∷ others_from (suc i) (k ∷ at) xs)
      ≡ (if b then others_from (suc i) at (map f xs) else f x ∷ others_from (suc i) (k ∷ at) (map f xs))) [
        | true ↦ map-others_from f (suc i) at xs
        | false ↦ ap (λ l. f x ∷ l) (map-others_from f (suc i) (k ∷ at) xs)
      ]

  pub map-others : {Y : Type 0} (f : X → Y) (at : List ℕ) (xs : List X) → map f (others_at at xs) ≡ others_at at (map f xs)
  map-others f at xs = map-others_from f 0 at xs

-- what lies from a place on begins with what lies there
pub drop-at : {X : Type 0} (xs : List X) (j : ℕ) (d : X) → j < length xs → drop j xs ≡ get_or xs j d ∷ drop (suc j) xs
drop-at [] j d there = absurd (omega (arith, there))
drop-at (x ∷ xs) zero d there = refl
drop-at (x ∷ xs) (suc j) d there = drop-at xs j d (omega (arith, there))

module _ {X : Type 0} where
  -- where an element is exchanged with one that stands no later: the first elements and it
  swapped-kept : (xs : List X) (kept i : ℕ) (d : X) → kept ≤ i → i < length xs → take (suc kept) (swap xs kept i) ≡ take kept xs ++ get_or xs i d ∷ []
  swapped-kept [] kept i d before there = absurd (omega (arith, there))
  swapped-kept (x ∷ xs) kept i d before there =
      let l = x ∷ xs in
      let a = get_or l i x in
      let b = get_or l kept x in
      let put : take (suc kept) (set (set l kept a) i b) ≡ take (suc kept) (set l kept a) = by (kept == i) refl in
      put ∙ take-suc-set l kept a (omega (arith, before, there)) ∙ ap (λ y. take kept l ++ y ∷ []) (get_or_default l i x d there)
    where
      by : (e : Bool) → (kept == i) ≡ e → take (suc kept) (set (set (x ∷ xs) kept (get_or (x ∷ xs) i x)) i (get_or (x ∷ xs) kept x)) ≡ take (suc kept) (set (x ∷ xs) kept (get_or (x ∷ xs) i x))
      by true same = let e = eqb-true kept i same in
          ap (take (suc kept)) (subst (λ j. set (set (x ∷ xs) kept (get_or (x ∷ xs) j x)) j (get_or (x ∷ xs) kept x) ≡ set (x ∷ xs) kept (get_or (x ∷ xs) j x)) e (set-set (x ∷ xs) kept (get_or (x ∷ xs) kept x) (get_or (x ∷ xs) kept x)))
      by false other = let apart = eqb-false kept i other in
          take-set-le (suc kept) (set (x ∷ xs) kept (get_or (x ∷ xs) i x)) i (get_or (x ∷ xs) kept x) (omega (arith, before, apart))

  -- and those behind both
  swapped-behind : (xs : List X) (kept i : ℕ) → kept ≤ i → drop (suc i) (swap xs kept i) ≡ drop (suc i) xs
  swapped-behind [] kept i before = refl
  swapped-behind (x ∷ xs) kept i before =
      drop-set-lt (suc i) (set (x ∷ xs) kept (get_or (x ∷ xs) i x)) i (get_or (x ∷ xs) kept x) (omega arith) ∙ drop-set-lt (suc i) (x ∷ xs) kept (get_or (x ∷ xs) i x) (omega (arith, before))

-- an element of a list that has some
some_of : {X : Type 0} (xs : List X) (i : ℕ) → i < length xs → X
some_of [] i there = absurd (omega (arith, there))
some_of (x ∷ xs) i there = x

-- places that rise from one on rise from the next on, where it is none of them
rising-past : (at : List ℕ) (k i end : ℕ) → (k < length at → get_or at k 0 ≢ i) → AreRising i (drop k at) end → AreRising (suc i) (drop k at) end
rising-past [] zero i end other are = tt
rising-past [] (suc k) i end other are = tt
rising-past (p ∷ at) zero i end other are = rising-next i p at end (ne_eqb i p (λ is. other (omega arith) (sym is))) are
rising-past (p ∷ at) (suc k) i end other are = rising-past at k i end (λ there is. other (omega (arith, there)) is) are

module _ {X : Type 0} (at : List ℕ) (old : List X) where
  -- of the first elements those at none of the places stand first, and the others stand where they did
  pub record AreKept (kept k i : ℕ) (now : List X) : Type 0 where
    pub before : kept ≤ i
    pub long : length now ≡ length old
    pub rising : AreRising i (drop k at) (length now)
    pub left : take kept now ++ others_from i (drop k at) (drop i now) ≡ others_at at old

  pub kept-none : ArePlaces at (length old) → AreKept 0 0 0 old
  kept-none are = record { before = omega arith; long = refl; rising = are; left = refl }

  -- an element that goes
  pub kept-out : (kept k i : ℕ) (now : List X) → k < length at → get_or at k 0 ≡ i → i < length now → AreKept kept k i now → AreKept kept (suc k) (suc i) now
  kept-out kept k i now there is within keeps =
      let rising = subst (λ l. AreRising i l (length now)) first keeps.rising in
      record { before = omega (arith, keeps.before); long = keeps.long; rising = rising.2; left = ap (λ l. take kept now ++ l) (sym step) ∙ keeps.left }
    where
      first : drop k at ≡ i ∷ drop (suc k) at
      first = drop-at at k 0 there ∙ ap (λ p. p ∷ drop (suc k) at) is

      step : others_from i (drop k at) (drop i now) ≡ others_from (suc i) (drop (suc k) at) (drop (suc i) now)
      step =
          let d = some_of now i within in
          ap₂ (others_from i) first (drop-at now i d within) ∙ others-out i i (drop (suc k) at) (get_or now i d) (drop (suc i) now) (eq-eqb i i refl)

  -- and one that stays
  pub kept-in : (kept k i : ℕ) (now : List X) → (k < length at → get_or at k 0 ≢ i) → i < length now → AreKept kept k i now → AreKept (suc kept) k (suc i) (swap now kept i)
  kept-in kept k i now other within keeps =
      let d = some_of now i within in
      let x = get_or now i d in
      let rest = others_from (suc i) (drop k at) (drop (suc i) now) in
      let rising = rising-past at k i (length now) other keeps.rising in
      let step : others_from i (drop k at) (drop i now) ≡ x ∷ rest = ap (others_from i (drop k at)) (drop-at now i d within) ∙ others-kept i (drop k at) (length now) x (drop (suc i) now) rising in
      record {
        before = omega (arith, keeps.before);
        long = length-swap now kept i ∙ keeps.long;
        rising = subst (AreRising (suc i) (drop k at)) (sym (length-swap now kept i)) rising;
        left =
            ap₂ (λ a b. a ++ others_from (suc i) (drop k at) b) (swapped-kept now kept i d keeps.before within) (swapped-behind now kept i keeps.before)
            ∙ append_assoc (take kept now) (x ∷ []) rest ∙ ap (λ l. take kept now ++ l) (sym step) ∙ keeps.left;
      }

  -- all elements
  pub kept-all : (kept k i : ℕ) (now : List X) → length now ≤ i → AreKept kept k i now → take kept now ≡ others_at at old
  kept-all kept k i now end keeps =
      sym (append-nil (take kept now)) ∙ ap (λ l. take kept now ++ others_from i (drop k at) l) (sym (drop_all i now end)) ∙ keeps.left
