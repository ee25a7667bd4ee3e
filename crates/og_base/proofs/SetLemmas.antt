-- What a rising set has, that it rises, and that no other rising list has the same members.
use Rattle.std.proofs.Common.{◌≡◌, ◌⊎◌, ◌++◌, ◌<◌, ◌≤◌, ◌<ℤ◌, ℕ, ℤ, zero, suc, Bool, true, List, [], ◌∷◌, length, get_or, filter, Contains, Ordering, Less, Equal, Greater, int_cmp, refl, sym, ap, ap₂, ◌∙◌, subst, inl, inr, ⊎_elim, true≢false, is_lt, arith}
use Rattle.std.specs.Cmp.{IsTotalOrder, Equal-is}
use Rattle.std.specs.List.{AllByRecursion, All, AllAdjacentBelow}
use Rattle.std.specs.List.Sorted.{IsStrictlySortedBy}
use Rattle.std.specs.Ordering.{MatchOrdering, eq_by_cmp, ordering_reverse}
use Rattle.std.proofs.lemmas.Bool.{cond_both}
use Rattle.std.proofs.lemmas.Cmp.{int_ranked, int_cmp_total, tied_itself}
use Rattle.std.proofs.lemmas.List.Elements.{All-filter, All-from_recursion, recursion_from_All, All-weaker, All-contains, All-contains_itself, filter_passes, Contains-append_left, Contains-append_right, Contains-append_cases}
use Rattle.std.proofs.lemmas.List.Kept.{IsStrictlySortedBy-filter}
use Rattle.std.proofs.lemmas.Map.Keys.{sorted_from_all_adjacent}
use Rattle.og_base.specs.Set.{IsExact, IsExactOrder, IsWithin, by_order, with_member, set_of}

-- what holds of each of the three holds of the one that the answer picks
pub by_order-is : {A : Type 0} (P : A → Type 0) (o : Ordering) (a b c : A) → (o ≡ Less → P a) → (o ≡ Equal → P b) → (o ≡ Greater → P c) → P (by_order o a b c)
by_order-is P Less a b c f g h = f refl
by_order-is P Equal a b c f g h = g refl
by_order-is P Greater a b c f g h = h refl

module _ {F : Type 0} where
  -- a list has its head, and what its tail has
  pub Contains-cons : (x z : F) (xs : List F) → (x ≡ z) ⊎ Contains xs z → Contains (x ∷ xs) z
  Contains-cons x z xs h = ⊎_elim (λ e. (0, omega arith, e)) (λ c. (suc c.0, omega (arith, c.1), c.2)) h

  -- a list has no more than its head, and what its tail has
  pub Contains-cons_cases : (x z : F) (xs : List F) → Contains (x ∷ xs) z → (x ≡ z) ⊎ Contains xs z
  Contains-cons_cases x z xs c = at c.0 c.1 c.2
    where
      at : (k : ℕ) → k < length (x ∷ xs) → get_or (x ∷ xs) k z ≡ z → (x ≡ z) ⊎ Contains xs z
      at zero l e = inl e
      at (suc k) l e = inr (k, omega arith, e)

  -- the empty list has no member
  pub Contains-nil : {G : Type 0} (z : F) → Contains [] z → G
  Contains-nil z c = absurd (omega (arith, c.1))

  -- a filter keeps a member that passes
  pub Contains-filter : (p : F → Bool) (xs : List F) (z : F) → p z ≡ true → Contains xs z → Contains (filter p xs) z
  Contains-filter p [] z t c = c
  Contains-filter p (x ∷ xs) z t c =
      let rest = Contains-filter p xs z t in
      cond_both (p x) (x ∷ filter p xs) (filter p xs) (λ l. Contains l z)
      (λ _. Contains-cons x z (filter p xs) (⊎_elim inl (λ d. inr (rest d)) (Contains-cons_cases x z xs c)))
      (λ f. ⊎_elim (λ e. absurd (true≢false (sym t ∙ ap p (sym e) ∙ f))) rest (Contains-cons_cases x z xs c))

  -- what a filter keeps is a member
  pub Contains-from_filter : (p : F → Bool) (xs : List F) (z : F) → Contains (filter p xs) z → Contains xs z
  Contains-from_filter p xs z c = All-contains (Contains xs) (filter p xs) z (All-filter p (Contains xs) xs (All-contains_itself xs)) c

  -- what a filter keeps passes
  pub filter_passes-member : (p : F → Bool) (xs : List F) (z : F) → Contains (filter p xs) z → p z ≡ true
  filter_passes-member p xs z c = All-contains (λ x. p x ≡ true) (filter p xs) z (filter_passes p xs) c

  -- with the same values behind both, each member of the one list is still one of the other
  pub IsWithin-append : (us vs ys : List F) → IsWithin us vs → IsWithin (us ++ ys) (vs ++ ys)
  IsWithin-append us vs ys h z c = ⊎_elim (λ d. Contains-append_left vs ys z (h z d)) (λ d. Contains-append_right vs ys z d) (Contains-append_cases us ys z c)

  -- and with the same values in front
  pub IsWithin-append_right : (xs us vs : List F) → IsWithin us vs → IsWithin (xs ++ us) (xs ++ vs)
  IsWithin-append_right xs us vs h z c = ⊎_elim (λ d. Contains-append_left xs vs z d) (λ d. Contains-append_right xs vs z (h z d)) (Contains-append_cases xs us z c)

module _ {F : Type 0} {cmp : F → F → Ordering} (exact : IsExact cmp) where
  -- what an exact order does not tell apart is the same
  pub eq_by_cmp-exact : (x y : F) → eq_by_cmp cmp x y ≡ true → x ≡ y
  eq_by_cmp-exact x y e = exact x y ((Equal-is (cmp x y)).0 e)

  -- a rising list with one more member has that member, and what it had
  Contains-with_member : (x z : F) (ys : List F) → (x ≡ z) ⊎ Contains ys z → Contains (with_member cmp x ys) z
  Contains-with_member x z [] h = Contains-cons x z [] h
  Contains-with_member x z (y ∷ ys) h =
      let rest = Contains-with_member x z ys in
      let moved : (y ≡ z) ⊎ Contains (with_member cmp x ys) z =
      ⊎_elim (λ e. inr (rest (inl e))) (λ c. ⊎_elim inl (λ d. inr (rest (inr d))) (Contains-cons_cases y z ys c)) h in
      by_order-is (λ l. Contains l z) (cmp x y) (x ∷ y ∷ ys) (y ∷ ys) (y ∷ with_member cmp x ys)
      (λ _. Contains-cons x z (y ∷ ys) h)
      (λ e. ⊎_elim (λ same. Contains-cons y z ys (inl (sym (exact x y e) ∙ same))) (λ c. c) h)
      (λ _. Contains-cons y z (with_member cmp x ys) moved)

  -- a set has each member of its list
  pub Contains-set_of : (xs : List F) (z : F) → Contains xs z → Contains (set_of cmp xs) z
  Contains-set_of [] z c = c
  Contains-set_of (x ∷ xs) z c = Contains-with_member x z (set_of cmp xs) (⊎_elim inl (λ d. inr (Contains-set_of xs z d)) (Contains-cons_cases x z xs c))

module _ {F : Type 0} (cmp : F → F → Ordering) where
  -- what holds of a member and of a list holds of the list with that member
  AllByRecursion-with_member : (P : F → Type 0) (x : F) (ys : List F) → P x → AllByRecursion P ys → AllByRecursion P (with_member cmp x ys)
  AllByRecursion-with_member P x [] h all = (h, tt)
  AllByRecursion-with_member P x (y ∷ ys) h all =
      by_order-is (AllByRecursion P) (cmp x y) (x ∷ y ∷ ys) (y ∷ ys) (y ∷ with_member cmp x ys)
      (λ _. (h, all))
      (λ _. all)
      (λ _. (all.0, AllByRecursion-with_member P x ys h all.1))

  -- `All-set_of`, by recursion on the list
  AllByRecursion-set_of : (P : F → Type 0) (xs : List F) → AllByRecursion P xs → AllByRecursion P (set_of cmp xs)
  AllByRecursion-set_of P [] all = all
  AllByRecursion-set_of P (x ∷ xs) all = AllByRecursion-with_member P x (set_of cmp xs) all.0 (AllByRecursion-set_of P xs all.1)

  -- what holds of each member of a list holds of each member of its set
  pub All-set_of : (P : F → Type 0) (xs : List F) → All P xs → All P (set_of cmp xs)
  All-set_of P xs all = All-from_recursion P (set_of cmp xs) (AllByRecursion-set_of P xs (recursion_from_All P xs all))

  -- a set has no more than the members of its list
  pub Contains-from_set_of : (xs : List F) (z : F) → Contains (set_of cmp xs) z → Contains xs z
  Contains-from_set_of xs z c = All-contains (Contains xs) (set_of cmp xs) z (All-set_of (Contains xs) xs (All-contains_itself xs)) c

module _ {F : Type 0} {cmp : F → F → Ordering} (total : IsTotalOrder cmp) where
  -- what is below the head of a rising list is below all of it
  below_all : (x y : F) (ys : List F) → cmp x y ≡ Less → AllByRecursion (λ z. cmp y z ≡ Less) ys → AllByRecursion (λ z. cmp x z ≡ Less) (y ∷ ys)
  below_all x y ys l all =
      (l, recursion_from_All (λ z. cmp x z ≡ Less) ys (All-weaker (λ z. cmp y z ≡ Less) (λ z. cmp x z ≡ Less) (λ z h. total.trans x y z l h) ys (All-from_recursion (λ z. cmp y z ≡ Less) ys all)))

  -- a rising list with one more member rises
  IsStrictlySortedBy-with_member : (x : F) (ys : List F) → IsStrictlySortedBy cmp ys → IsStrictlySortedBy cmp (with_member cmp x ys)
  unfolding IsStrictlySortedBy
  IsStrictlySortedBy-with_member x [] up = (tt, tt)
  IsStrictlySortedBy-with_member x (y ∷ ys) up =
      by_order-is (IsStrictlySortedBy cmp) (cmp x y) (x ∷ y ∷ ys) (y ∷ ys) (y ∷ with_member cmp x ys)
      (λ l. (below_all x y ys l up.0, up))
      (λ _. up)
      (λ g. (AllByRecursion-with_member cmp (λ z. cmp y z ≡ Less) x ys (total.antisymm y x ∙ ap ordering_reverse g) up.0, IsStrictlySortedBy-with_member x ys up.1))

  -- a set rises
  pub IsStrictlySortedBy-set_of : (xs : List F) → IsStrictlySortedBy cmp (set_of cmp xs)
  unfolding IsStrictlySortedBy
  IsStrictlySortedBy-set_of [] = tt
  IsStrictlySortedBy-set_of (x ∷ xs) = IsStrictlySortedBy-with_member x (set_of cmp xs) (IsStrictlySortedBy-set_of xs)

  -- no value is below itself
  irreflexive : {G : Type 0} (x : F) → cmp x x ≡ Less → G
  irreflexive x l = absurd (true≢false (sym (ap is_lt l) ∙ ap is_lt (tied_itself total x)))

  -- the head of a rising list is below what its tail has
  above_head : (x z : F) (xs : List F) → IsStrictlySortedBy cmp (x ∷ xs) → Contains xs z → cmp x z ≡ Less
  unfolding IsStrictlySortedBy
  above_head x z xs up c = All-contains (λ y. cmp x y ≡ Less) xs z (All-from_recursion (λ y. cmp x y ≡ Less) xs up.0) c

  -- the tail of a rising list rises
  rising_tail : (x : F) (xs : List F) → IsStrictlySortedBy cmp (x ∷ xs) → IsStrictlySortedBy cmp xs
  unfolding IsStrictlySortedBy
  rising_tail x xs up = up.1

  -- two rising lists with the same members have the same head
  same_head : (x y : F) (xs ys : List F) → IsStrictlySortedBy cmp (x ∷ xs) → IsStrictlySortedBy cmp (y ∷ ys) → IsWithin (x ∷ xs) (y ∷ ys) → IsWithin (y ∷ ys) (x ∷ xs) → x ≡ y
  same_head x y xs ys up vp there back =
      ⊎_elim sym (λ c. ⊎_elim (λ e. e) (λ d. irreflexive x (total.trans x y x (above_head x y xs up d) (above_head y x ys vp c)))
      (Contains-cons_cases x y xs (back y (Contains-cons y y ys (inl refl)))))
      (Contains-cons_cases y x ys (there x (Contains-cons x x xs (inl refl))))

  -- the tail of a rising list has no more than the tail of another with the same head
  tail_within : (x y : F) (xs ys : List F) → x ≡ y → IsStrictlySortedBy cmp (x ∷ xs) → IsWithin (x ∷ xs) (y ∷ ys) → IsWithin xs ys
  tail_within x y xs ys e up there z c =
      ⊎_elim (λ same. irreflexive x (subst (λ w. cmp x w ≡ Less) (sym (e ∙ same)) (above_head x z xs up c))) (λ d. d)
      (Contains-cons_cases y z ys (there z (Contains-cons x z xs (inr c))))

  -- two rising lists with the same members are one
  pub same_rising : (xs ys : List F) → IsStrictlySortedBy cmp xs → IsStrictlySortedBy cmp ys → IsWithin xs ys → IsWithin ys xs → xs ≡ ys
  same_rising [] [] up vp there back = refl
  same_rising [] (y ∷ ys) up vp there back = Contains-nil y (back y (Contains-cons y y ys (inl refl)))
  same_rising (x ∷ xs) [] up vp there back = Contains-nil x (there x (Contains-cons x x xs (inl refl)))
  same_rising (x ∷ xs) (y ∷ ys) up vp there back =
      let e = same_head x y xs ys up vp there back in
      ap₂ (λ z zs. z ∷ zs) e (same_rising xs ys (rising_tail x xs up) (rising_tail y ys vp) (tail_within x y xs ys e up there) (tail_within y x ys xs (sym e) vp back))

  -- a list rises in which each comes before the next
  pub rises : (xs : List F) (n : ℕ) → length xs ≤ n → AllAdjacentBelow (λ x y. cmp x y ≡ Less) xs n → IsStrictlySortedBy cmp xs
  unfolding IsStrictlySortedBy
  rises [] n most next = tt
  rises (x ∷ xs) n most next = sorted_from_all_adjacent total (x ∷ xs) x (λ k lt. next k x (omega (arith, most, lt)))

  -- in a rising list each comes before the next
  pub next_above : (xs : List F) (i : ℕ) (d e : F) → suc i < length xs → IsStrictlySortedBy cmp xs → cmp (get_or xs i d) (get_or xs (suc i) e) ≡ Less
  unfolding IsStrictlySortedBy
  next_above [] i d e l up = absurd (omega (arith, l))
  next_above (x ∷ []) i d e l up = absurd (omega (arith, l))
  next_above (x ∷ y ∷ ys) zero d e l up = up.0.0
  next_above (x ∷ y ∷ ys) (suc i) d e l up = next_above (y ∷ ys) i d e (omega (arith, l)) up.1

module _ {F : Type 0} {cmp : F → F → Ordering} (o : IsExactOrder cmp) where
  -- a rising list with the members of a list is the set of that list
  pub is_set_of_members : (xs ys : List F) → IsStrictlySortedBy cmp ys → IsWithin ys xs → IsWithin xs ys → ys ≡ set_of cmp xs
  is_set_of_members xs ys up there back =
      same_rising o.total ys (set_of cmp xs) up (IsStrictlySortedBy-set_of o.total xs)
      (λ z c. Contains-set_of o.exact xs z (there z c))
      (λ z c. back z (Contains-from_set_of cmp xs z c))

  -- lists with the same members have one set
  pub same_set : (xs ys : List F) → IsWithin xs ys → IsWithin ys xs → set_of cmp xs ≡ set_of cmp ys
  same_set xs ys there back =
      is_set_of_members ys (set_of cmp xs) (IsStrictlySortedBy-set_of o.total xs)
      (λ z c. there z (Contains-from_set_of cmp xs z c))
      (λ z c. Contains-set_of o.exact xs z (back z c))

  -- a rising list is its own set
  pub set_of-rising : (xs : List F) → IsStrictlySortedBy cmp xs → set_of cmp xs ≡ xs
  set_of-rising xs up = sym (is_set_of_members xs xs up (λ z c. c) (λ z c. c))

  -- the set of a set is that set
  pub set_of-set_of : (xs : List F) → set_of cmp (set_of cmp xs) ≡ set_of cmp xs
  set_of-set_of xs = set_of-rising (set_of cmp xs) (IsStrictlySortedBy-set_of o.total xs)

  -- with other values behind, a list and its set give one set
  pub set_of-append : (xs ys : List F) → set_of cmp (set_of cmp xs ++ ys) ≡ set_of cmp (xs ++ ys)
  set_of-append xs ys =
      same_set (set_of cmp xs ++ ys) (xs ++ ys)
      (IsWithin-append (set_of cmp xs) xs ys (Contains-from_set_of cmp xs))
      (IsWithin-append xs (set_of cmp xs) ys (Contains-set_of o.exact xs))

  -- and with other values in front
  pub set_of-append_right : (xs ys : List F) → set_of cmp (xs ++ set_of cmp ys) ≡ set_of cmp (xs ++ ys)
  set_of-append_right xs ys =
      same_set (xs ++ set_of cmp ys) (xs ++ ys)
      (IsWithin-append_right xs (set_of cmp ys) ys (Contains-from_set_of cmp ys))
      (IsWithin-append_right xs ys (set_of cmp ys) (Contains-set_of o.exact ys))

  -- with one more value behind, a list and its set give one set
  pub set_of-push : (xs : List F) (x : F) → set_of cmp (set_of cmp xs ++ x ∷ []) ≡ set_of cmp (xs ++ x ∷ [])
  set_of-push xs x = set_of-append xs (x ∷ [])

  -- what passes of a set is the set of what passes
  pub filter-set_of : (p : F → Bool) (xs : List F) → filter p (set_of cmp xs) ≡ set_of cmp (filter p xs)
  filter-set_of p xs =
      is_set_of_members (filter p xs) (filter p (set_of cmp xs)) (IsStrictlySortedBy-filter cmp p (set_of cmp xs) (IsStrictlySortedBy-set_of o.total xs))
      (λ z c. Contains-filter p xs z (filter_passes-member p (set_of cmp xs) z c) (Contains-from_set_of cmp xs z (Contains-from_filter p (set_of cmp xs) z c)))
      (λ z c. Contains-filter p (set_of cmp xs) z (filter_passes-member p xs z c) (Contains-set_of o.exact xs z (Contains-from_filter p xs z c)))

-- days are ordered by their numbers, and days with one number are one day
pub days_exact : IsExactOrder int_cmp
days_exact = record { total = int_cmp_total; exact = λ a b e. tied a b (int_cmp a b) e (int_ranked a b (int_cmp a b) refl) }
  where
    tied : (a b : ℤ) (r : Ordering) → r ≡ Equal → MatchOrdering r (a <ℤ b) (a ≡ b) (b <ℤ a) → a ≡ b
    tied a b Less e h = cc
    tied a b Equal e h = h
    tied a b Greater e h = cc
