-- Keys that are sought: of one more left row, of a key that is not found, and of rows that are passed over.
use Rattle.std.proofs.Common.{◌≡◌, ◌++◌, ◌+◌, ◌<◌, ◌||◌, ℕ, nat_lt, ℤ, Bool, true, false, List, [], ◌∷◌, length, get_or, take, if◌then◌else◌, Ordering, Less, Equal, Greater, Result, Ok, Err, refl, sym, ap, ap₂, subst, ◌∙◌, arith}
use Rattle.std.specs.Cmp.{IsTotalOrder}
use Rattle.std.specs.List.{All, list_any}
use Rattle.std.specs.List.Sorted.{IsBinarySearchResult, IsPartitionPoint, IsSortedBy}
use Rattle.std.specs.Ordering.{eq_by_cmp, is_eq, is_lt, ordering_reverse}
use Rattle.std.specs.Result.{is_ok}
use Rattle.std.proofs.Math.Bool.{or-false, or-true}
use Rattle.std.proofs.lemmas.List.{length-append, map-append}
use Rattle.std.proofs.lemmas.List.Elements.{All-append, All-nil, All-push, All-weaker}
use Rattle.std.proofs.lemmas.List.Folds.{list_any-append, list_any_none}
use Rattle.std.proofs.lemmas.List.Sorted.{searchable_from_sorted}
use Rattle.og_base.specs.Ranges.{Range, holds_day}
use Rattle.og_rel.specs.Relations.{present}
use Rattle.og_rel.proofs.PresentLemmas.{present-append, present-more}
use Rattle.og_ops.specs.Lending.{lent}
use Rattle.og_ops.specs.declared.semijoins.KeyedRow.{KeyedRow}
use Rattle.og_join.specs.Sought.{IsSought}

-- a list with one more member is one longer
pub length-pushed : {X : Type 0} (old new : List X) (x : X) → new ≡ old ++ x ∷ [] → length new ≡ length old + 1
length-pushed old new x is = ap length is ∙ length-append old (x ∷ [])

module _ {K : Type 0} {cmp : K → K → Ordering} (total : IsTotalOrder cmp) where
  -- a key ties with itself
  ties_itself : (k : K) → eq_by_cmp cmp k k ≡ true
  ties_itself k = at (cmp k k) (total.antisymm k k)
    where
      at : (o : Ordering) → o ≡ ordering_reverse o → is_eq o ≡ true
      at Less e = cc
      at Equal e = refl
      at Greater e = cc

  -- what is Equal ties
  tied : (o : Ordering) → is_eq o ≡ true → o ≡ Equal
  tied Less e = cc
  tied Equal e = refl
  tied Greater e = cc

  -- a key ties with two that tie alike
  pub ties_alike : (j k l : K) → eq_by_cmp cmp k l ≡ true → eq_by_cmp cmp j k ≡ eq_by_cmp cmp j l
  ties_alike j k l e = ap is_eq (total.antisymm j k ∙ ap ordering_reverse (total.congr k l j (tied (cmp k l) e)) ∙ sym (total.antisymm j l))

  -- of two keys that tie both are sought, or none
  pub sought_alike : (sought : Bool × List K) (k l : K) → eq_by_cmp cmp k l ≡ true → IsSought cmp sought k → IsSought cmp sought l
  sought_alike sought k l e is few = sym (alike sought.1) ∙ is few
    where
      alike : (js : List K) → list_any (λ j. eq_by_cmp cmp j k) js ≡ list_any (λ j. eq_by_cmp cmp j l) js
      alike [] = refl
      alike (j ∷ js) = ap₂ (λ a b. a || b) (ties_alike j k l e) (alike js)

  -- with one more key, that of one more row, each row has one of the keys
  pub keys_more : {F : Type 0} (key_of : F → K) (old new : List K) (k : K) (xs : List F) (x : F) (here : Bool) → new ≡ old ++ k ∷ [] → key_of x ≡ k
      → All (λ y. list_any (λ j. eq_by_cmp cmp j (key_of y)) old ≡ true) xs → All (λ y. list_any (λ j. eq_by_cmp cmp j (key_of y)) new ≡ true) (xs ++ (if here then x ∷ [] else []))
  keys_more {F} key_of old new k xs x here is key_is before =
      subst (λ js. All (λ y. list_any (λ j. eq_by_cmp cmp j (key_of y)) js ≡ true) (xs ++ (if here then x ∷ [] else []))) (sym is)
      (All-append (λ y. list_any (λ j. eq_by_cmp cmp j (key_of y)) (old ++ k ∷ []) ≡ true) xs (if here then x ∷ [] else [])
      (All-weaker (λ y. list_any (λ j. eq_by_cmp cmp j (key_of y)) old ≡ true) (λ y. list_any (λ j. eq_by_cmp cmp j (key_of y)) (old ++ k ∷ []) ≡ true)
      (λ y e. list_any-append (λ j. eq_by_cmp cmp j (key_of y)) old (k ∷ []) ∙ ap (λ b. b || list_any (λ j. eq_by_cmp cmp j (key_of y)) (k ∷ [])) e) xs before)
      (one here))
    where
      one : (h : Bool) → All (λ y. list_any (λ j. eq_by_cmp cmp j (key_of y)) (old ++ k ∷ []) ≡ true) (if h then x ∷ [] else [])
      one true =
          All-push (λ y. list_any (λ j. eq_by_cmp cmp j (key_of y)) (old ++ k ∷ []) ≡ true) [] x (All-nil (λ y. list_any (λ j. eq_by_cmp cmp j (key_of y)) (old ++ k ∷ []) ≡ true))
          (list_any-append (λ j. eq_by_cmp cmp j (key_of x)) old (k ∷ [])
          ∙ ap (λ b. list_any (λ j. eq_by_cmp cmp j (key_of x)) old || b) (or-false (eq_by_cmp cmp k (key_of x)) ∙ ap (eq_by_cmp cmp k) key_is ∙ ties_itself k) ∙ or-true (list_any (λ j. eq_by_cmp cmp j (key_of x)) old))
      one false = All-nil (λ y. list_any (λ j. eq_by_cmp cmp j (key_of y)) (old ++ k ∷ []) ≡ true)

module _ {R F : Type 0} (at : R → ℤ → F) (t : F → Bool) (d : ℤ) (right : List (R × List Range)) (i : ℕ) (p : R × List Range) where
  -- a row that passes no test adds nothing to what is found
  pub found_without : (found : Bool) → i < length right → p ≡ get_or right i p → (t (at p.0 d) ≡ true → ⊥) → found ≡ list_any t (present at (take i right) d) → found ≡ list_any t (present at (take (i + 1) right) d)
  found_without found l is none before =
      before ∙ sym (or-false (list_any t (present at (take i right) d)))
      ∙ ap (λ b. list_any t (present at (take i right) d) || b) (sym (nothing (holds_day p.1 d) (t (at p.0 d)) refl))
      ∙ sym (list_any-append t (present at (take i right) d) (present at (p ∷ []) d))
      ∙ ap (list_any t) (sym (present-more at right i p d l is))
    where
      nothing : (here passes : Bool) → t (at p.0 d) ≡ passes → list_any t (if here then at p.0 d ∷ [] else []) ≡ false
      nothing true true e = absurd (none e)
      nothing true false e = or-false (t (at p.0 d)) ∙ e
      nothing false passes e = refl

  -- and of one that stands behind those found, its own test is added
  pub found_with : {K : Type 0} (old new : List (KeyedRow R K)) (s : KeyedRow R K) → i < length right → p ≡ get_or right i p → new ≡ old ++ s ∷ [] → (s.row.now, s.days.now) ≡ p
      → list_any t (present at (lent old) d) ≡ list_any t (present at (take i right) d) → list_any t (present at (lent new) d) ≡ list_any t (present at (take (i + 1) right) d)
  found_with old new s l is e lends before =
      ap (λ rows. list_any t (present at (lent rows) d)) e
      ∙ ap (λ rel. list_any t (present at rel d)) (map-append (λ q. (q.row.now, q.days.now)) old (s ∷ []))
      ∙ ap (list_any t) (present-append at (lent old) ((s.row.now, s.days.now) ∷ []) d)
      ∙ list_any-append t (present at (lent old) d) (present at ((s.row.now, s.days.now) ∷ []) d)
      ∙ ap₂ (λ a q. a || list_any t (present at (q ∷ []) d)) before lends
      ∙ sym (list_any-append t (present at (take i right) d) (present at (p ∷ []) d))
      ∙ ap (list_any t) (sym (present-more at right i p d l is))

module _ {K : Type 0} {cmp : K → K → Ordering} (total : IsTotalOrder cmp) (sought : Bool × List K) (key : K) (up : IsSortedBy (λ a b. is_lt (cmp a b)) sought.1) where
  -- a key that a binary search does not find ties with none
  pub not_found : (r : Result ℕ ℕ) → IsBinarySearchResult (λ k. cmp k key) sought.1 r → is_ok r ≡ false → list_any (λ k. eq_by_cmp cmp k key) sought.1 ≡ false
  not_found (Ok i) found e = cc
  not_found (Err i) gap e =
      list_any_none (λ k. eq_by_cmp cmp k key) sought.1
      (λ n k within. apart n k within (gap (searchable_from_sorted total (λ a. a) sought.1 key up)))
    where
      apart : (n : ℕ) (k : K) → n < length sought.1 → IsPartitionPoint (λ y. cmp y key ≡ Less) (λ y. cmp y key ≡ Greater) sought.1 i → eq_by_cmp cmp (get_or sought.1 n k) key ≡ false
      apart n k within gap = at (nat_lt n i) refl
        where
          unlike : (o other : Ordering) → o ≡ other → is_eq other ≡ false → is_eq o ≡ false
          unlike o other e f = ap is_eq e ∙ f

          at : (b : Bool) → nat_lt n i ≡ b → eq_by_cmp cmp (get_or sought.1 n k) key ≡ false
          at true e = unlike _ Less (gap.0 n k (omega arith) (grind (arith, e))) refl
          at false e = unlike _ Greater (gap.1 n k (grind (arith, e)) within) refl
