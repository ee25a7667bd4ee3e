-- Pairs that overlap in rising lists: those of the span that begins first, and those that are left.
use Rattle.std.proofs.Common.{◌≡◌, ◌+◌, ◌++◌, ◌<ℤ◌, ◌≤ℤ◌, ℕ, zero, suc, length, drop, ℤ, Bool, true, false, List, [], ◌∷◌, int_lt, refl, sym, ap, ◌∙◌, IsPermutation, arith}
use Rattle.std.proofs.Math.Bool.{and-false}
use Rattle.std.proofs.lemmas.Bool.{true≢false}
use Rattle.std.proofs.lemmas.Int.{ints}
use Rattle.std.proofs.lemmas.List.{append_assoc}
use Rattle.std.proofs.lemmas.List.Sorted.{IsPermutation-refl, IsPermutation-trans, IsPermutation-cons, IsPermutation-append_comm, IsPermutation-append_left, IsPermutation-append_right}
use Rattle.og_base.proofs.BoundaryLemmas.{by_day, int_lt-no, int_lt-yes}
use Rattle.og_join.specs.Overlaps.{NoneBelow, Rises, overlap, row_overlaps, overlaps}
use Rattle.og_join.specs.Sweep.{reach_of, row_places, column_places, column_overlaps}

-- a number and one is the next one
pub add_one : (n : ℕ) → n + 1 ≡ suc n
add_one n = omega arith

-- one more place at the head of a row
row_places-more : (i j n : ℕ) → row_places i j (n + 1) ≡ (i, j) ∷ row_places i (j + 1) n
row_places-more i j n = ap (row_places i j) (add_one n)

-- one more place at the head of a column
column_places-more : (i j n : ℕ) → column_places i j (n + 1) ≡ (i, j) ∷ column_places (i + 1) j n
column_places-more i j n = ap (column_places i j) (add_one n)

-- a test holds, or it does not
pub by_test : {P : Type 0} (t : Bool) → (t ≡ true → P) → (t ≡ false → P) → P
by_test true f g = f refl
by_test false f g = g refl

-- so many places at the head of a row, and one more behind them
pub row_places-push : (i j n : ℕ) → row_places i j (n + 1) ≡ row_places i j n ++ (i, j + n) ∷ []
row_places-push i j zero = ap (λ k. (i, k) ∷ []) (omega arith)
row_places-push i j (suc n) =
    row_places-more i j (suc n) ∙ ap (λ all. (i, j) ∷ all) (ap (row_places i (j + 1)) (sym (add_one n)) ∙ row_places-push i (j + 1) n ∙ ap (λ k. row_places i (j + 1) n ++ (i, k) ∷ []) (omega arith))

-- so many places at the head of a column, and one more behind them
pub column_places-push : (i j n : ℕ) → column_places i j (n + 1) ≡ column_places i j n ++ (i + n, j) ∷ []
column_places-push i j zero = ap (λ k. (k, j) ∷ []) (omega arith)
column_places-push i j (suc n) =
    column_places-more i j (suc n) ∙ ap (λ all. (i, j) ∷ all) (ap (column_places (i + 1) j) (sym (add_one n)) ∙ column_places-push (i + 1) j n ∙ ap (λ k. column_places (i + 1) j n ++ (k, j) ∷ []) (omega arith))

-- one more found, and one more place: what was found is still what was there before and the places
pub more_behind : {X : Type 0} (old found new places more : List X) (x : X) → found ≡ old ++ places → more ≡ places ++ x ∷ [] → new ≡ found ++ x ∷ [] → new ≡ old ++ more
more_behind old found new places more x f m n = n ∙ ap (λ all. all ++ x ∷ []) f ∙ append_assoc old places (x ∷ []) ∙ ap (λ all. old ++ all) (sym m)

-- a row has so many places
pub length-row_places : (i j n : ℕ) → length (row_places i j n) ≡ n
length-row_places i j zero = refl
length-row_places i j (suc n) = ap suc (length-row_places i (j + 1) n)

-- a column has so many places
pub length-column_places : (i j n : ℕ) → length (column_places i j n) ≡ n
length-column_places i j zero = refl
length-column_places i j (suc n) = ap suc (length-column_places (i + 1) j n)

-- what two lists are with a third one in front of the second, the first one in front
exchange : {X : Type 0} (rs os cs ps : List X) → IsPermutation os (cs ++ ps) → IsPermutation (rs ++ os) (cs ++ (rs ++ ps))
exchange rs os cs ps h =
    IsPermutation-trans (rs ++ os) (rs ++ (cs ++ ps)) (cs ++ (rs ++ ps)) (IsPermutation-append_right rs os (cs ++ ps) h)
    (rw (sym (append_assoc rs cs ps), sym (append_assoc cs rs ps)) (IsPermutation-append_left ps (rs ++ cs) (cs ++ rs) (IsPermutation-append_comm rs cs)))

module _ {E : Type 0} (lo hi : E → ℤ) where
  -- none begins before an earlier day
  pub NoneBelow-earlier : (xs : List E) (a b : ℤ) → a ≤ℤ b → NoneBelow lo b xs → NoneBelow lo a xs
  NoneBelow-earlier [] a b l h = tt
  NoneBelow-earlier (x ∷ xs) a b l h =
      (by_day (lo x) b (λ k e. absurd (true≢false (sym e ∙ h.0))) (λ k e. int_lt-no (lo x) a (omega (arith, ints))), NoneBelow-earlier xs a b l h.1)

  -- a left span overlaps none that begin at its end or later
  row_overlaps-past : (i j : ℕ) (l : E) (rs : List E) → NoneBelow lo (hi l) rs → row_overlaps lo hi i l j rs ≡ []
  row_overlaps-past i j l [] h = refl
  row_overlaps-past i j l (r ∷ rs) h = rw (h.0, and-false (int_lt (lo l) (hi r))) (row_overlaps-past i (j + 1) l rs h.1)

  -- a right span overlaps none that begin at its end or later
  column_overlaps-past : (i j : ℕ) (r : E) (ls : List E) → NoneBelow lo (hi r) ls → column_overlaps lo hi i ls j r ≡ []
  column_overlaps-past i j r [] h = refl
  column_overlaps-past i j r (l ∷ ls) h = rw h.0 (column_overlaps-past (i + 1) j r ls h.1)

  -- none begins before a day where the first one does not, and the list rises
  pub NoneBelow-rising : (day : ℤ) (x : E) (xs : List E) → day ≤ℤ lo x → Rises lo (x ∷ xs) → NoneBelow lo day (x ∷ xs)
  NoneBelow-rising day x xs l up = (int_lt-no (lo x) day l, NoneBelow-earlier xs day (lo x) l up.0)

  -- one right span more: its pairs, and those without it
  pub overlaps-column : (i j : ℕ) (ls : List E) (r : E) (rs : List E)
      → IsPermutation (overlaps lo hi i j ls (r ∷ rs)) (column_overlaps lo hi i ls j r ++ overlaps lo hi i (j + 1) ls rs)
  overlaps-column i j [] r rs = IsPermutation-refl []
  overlaps-column i j (l ∷ ls) r rs =
      let row = row_overlaps lo hi i l (j + 1) rs in
      let column = column_overlaps lo hi (i + 1) ls j r in
      let less = overlaps lo hi (i + 1) (j + 1) ls rs in
      let more = overlaps lo hi (i + 1) j ls (r ∷ rs) in
      let moved : IsPermutation (row ++ more) (column ++ (row ++ less)) = exchange row more column less (overlaps-column (i + 1) j ls r rs) in
      by_test (overlap lo hi l r)
      (λ e. rw e (IsPermutation-cons (i, j) (row ++ more) (column ++ (row ++ less)) moved))
      (λ e. rw e moved)

  -- what is behind some places rises too
  pub Rises-drop : (xs : List E) (n : ℕ) → Rises lo xs → Rises lo (drop n xs)
  Rises-drop xs zero up = up
  Rises-drop [] (suc n) up = tt
  Rises-drop (x ∷ xs) (suc n) up = Rises-drop xs n up.1

  module _ (spans : (e : E) → lo e <ℤ hi e) where
    -- a left span that begins first overlaps as many of the first right ones as begin before its end
    pub row_overlaps-reach : (i j : ℕ) (l : E) (rs : List E) → NoneBelow lo (lo l) rs → Rises lo rs → row_overlaps lo hi i l j rs ≡ row_places i j (reach_of lo (hi l) rs)
    row_overlaps-reach i j l [] h up = refl
    row_overlaps-reach i j l (r ∷ rs) h up =
        by_day (lo r) (hi l)
        (λ k e.
        let before : int_lt (lo l) (hi r) ≡ true = by_day (lo r) (lo l) (λ _ f. absurd (true≢false (sym f ∙ h.0))) (λ m _. let s = spans r in int_lt-yes (lo l) (hi r) (omega (arith, ints))) in
        rw (e, before) (ap (λ all. (i, j) ∷ all) (row_overlaps-reach i (j + 1) l rs h.1 up.1) ∙ sym (row_places-more i j (reach_of lo (hi l) rs))))
        (λ k e. rw (e, and-false (int_lt (lo l) (hi r))) (row_overlaps-past i (j + 1) l rs (NoneBelow-earlier rs (hi l) (lo r) k up.0)))

    -- a right span that begins first overlaps as many of the first left ones as begin before its end
    pub column_overlaps-reach : (i j : ℕ) (r : E) (ls : List E) → NoneBelow lo (lo r) ls → Rises lo ls → column_overlaps lo hi i ls j r ≡ column_places i j (reach_of lo (hi r) ls)
    column_overlaps-reach i j r [] h up = refl
    column_overlaps-reach i j r (l ∷ ls) h up =
        by_day (lo l) (hi r)
        (λ k e.
        let before : int_lt (lo r) (hi l) ≡ true = by_day (lo l) (lo r) (λ _ f. absurd (true≢false (sym f ∙ h.0))) (λ m _. let s = spans l in int_lt-yes (lo r) (hi l) (omega (arith, ints))) in
        rw (e, before) (ap (λ all. (i, j) ∷ all) (column_overlaps-reach (i + 1) j r ls h.1 up.1) ∙ sym (column_places-more i j (reach_of lo (hi r) ls))))
        (λ k e. rw e (column_overlaps-past (i + 1) j r ls (NoneBelow-earlier ls (hi r) (lo l) k up.0)))
