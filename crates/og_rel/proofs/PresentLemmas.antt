-- The rows that are present on a day: of relations one after the other, of one more row, and whether a test holds of some of them.
use Rattle.std.proofs.Common.{◌≡◌, ◌++◌, ◌+◌, ◌<◌, ◌||◌, ◌&&◌, ℕ, ℤ, Bool, true, false, List, [], ◌∷◌, length, get_or, take, if◌then◌else◌, Ordering, refl, sym, ap, ap₂, ◌∙◌}
use Rattle.std.specs.List.{list_any}
use Rattle.std.proofs.lemmas.List.{take_more}
use Rattle.og_base.specs.Ranges.{Range, holds_day}
use Rattle.og_base.specs.Set.{IsExactOrder, set_of}
use Rattle.og_base.proofs.SetLemmas.{set_of-append, set_of-append_right}
use Rattle.og_base.proofs.SetMembers.{list_any-set_of}
use Rattle.og_rel.specs.Relations.{present, relation_at, stored}

-- the row and the days at a place are the pair at that place
pub at_place : {R : Type 0} (rel : List (R × List Range)) (i : ℕ) (row : R) (days : List Range)
    → ((p : R × List Range) → row ≡ (get_or rel i p).0) → ((p : R × List Range) → days ≡ (get_or rel i p).1) → (row, days) ≡ get_or rel i (row, days)
at_place rel i row days row_is days_is = ap₂ (λ r ds. (r, ds)) (row_is (row, days)) (days_is (row, days))

module _ {R F : Type 0} (at : R → ℤ → F) where
  -- of two relations, one after the other
  pub present-append : (a b : List (R × List Range)) (d : ℤ) → present at (a ++ b) d ≡ present at a d ++ present at b d
  present-append [] b d = refl
  present-append (p ∷ a) b d = with_first (holds_day p.1 d) (present-append a b d)
    where
      with_first : (h : Bool) → present at (a ++ b) d ≡ present at a d ++ present at b d
          → (if h then at p.0 d ∷ present at (a ++ b) d else present at (a ++ b) d) ≡ (if h then at p.0 d ∷ present at a d else present at a d) ++ present at b d
      with_first true e = ap (λ rows. at p.0 d ∷ rows) e
      with_first false e = e

  -- of the first rows and one more
  pub present-more : (rel : List (R × List Range)) (i : ℕ) (p : R × List Range) (d : ℤ) → i < length rel → p ≡ get_or rel i p
      → present at (take (i + 1) rel) d ≡ present at (take i rel) d ++ present at (p ∷ []) d
  present-more rel i p d l e =
      ap (λ q. present at q d) (take_more rel i p l ∙ ap (λ q. take i rel ++ q ∷ []) (sym e)) ∙ present-append (take i rel) (p ∷ []) d

  -- of a row that is stored with its days
  pub present-stored : (row : R) (days : List Range) (d : ℤ) → present at (stored row days) d ≡ (if holds_day days d then at row d ∷ [] else [])
  present-stored row [] d = refl
  present-stored row (r ∷ rs) d = refl

  -- of a relation to which a row is pushed
  pub present-push : (rel : List (R × List Range)) (row : R) (days : List Range) (d : ℤ)
      → present at (rel ++ stored row days) d ≡ present at rel d ++ (if holds_day days d then at row d ∷ [] else [])
  present-push rel row days d = present-append rel (stored row days) d ∙ ap (λ rows. present at rel d ++ rows) (present-stored row days d)

  -- a test holds of some row of the day, where it does at the day of some row that is present on it
  pub list_any-present : (t : F → Bool) (rel : List (R × List Range)) (d : ℤ) → list_any t (present at rel d) ≡ list_any (λ p. holds_day p.1 d && t (at p.0 d)) rel
  list_any-present t [] d = refl
  list_any-present t (p ∷ rel) d = with_first (holds_day p.1 d) (list_any-present t rel d)
    where
      with_first : (h : Bool) → list_any t (present at rel d) ≡ list_any (λ q. holds_day q.1 d && t (at q.0 d)) rel
          → list_any t (if h then at p.0 d ∷ present at rel d else present at rel d) ≡ ((h && t (at p.0 d)) || list_any (λ q. holds_day q.1 d && t (at q.0 d)) rel)
      with_first true e = ap (λ b. t (at p.0 d) || b) e
      with_first false e = e

  -- the step of a loop over the places of a relation that makes f of the rows of a day, where f of lists one after the other is f of each
  pub made_more : (f : List F → List F) → ((xs ys : List F) → f (xs ++ ys) ≡ f xs ++ f ys)
      → (rel : List (R × List Range)) (i : ℕ) (row : R) (days : List Range) (old new : List (R × List Range)) (d : ℤ) → i < length rel
      → ((p : R × List Range) → row ≡ (get_or rel i p).0) → ((p : R × List Range) → days ≡ (get_or rel i p).1)
      → present at old d ≡ f (present at (take i rel) d) → present at new d ≡ present at old d ++ f (present at ((row, days) ∷ []) d)
      → present at new d ≡ f (present at (take (i + 1) rel) d)
  made_more f along rel i row days old new d l row_is days_is before step =
      let p : R × List Range = (row, days) in
      let more = present-more rel i p d l (at_place rel i row days row_is days_is) in
      step ∙ ap (λ rows. rows ++ f (present at (p ∷ []) d)) before ∙ sym (along (present at (take i rel) d) (present at (p ∷ []) d)) ∙ ap f (sym more)

module _ {R F : Type 0} {cmp : F → F → Ordering} (o : IsExactOrder cmp) (at : R → ℤ → F) where
  -- two relations, one after the other, are at a day the set of both at that day
  pub relation_at-append : (a b : List (R × List Range)) (d : ℤ) → relation_at cmp at (a ++ b) d ≡ set_of cmp (relation_at cmp at a d ++ relation_at cmp at b d)
  relation_at-append a b d =
      ap (set_of cmp) (present-append at a b d)
      ∙ sym (set_of-append o (present at a d) (present at b d))
      ∙ sym (set_of-append_right o (relation_at cmp at a d) (present at b d))

  -- a test holds of some row of a relation at a day, where it does at the day of some row that is present on it
  pub list_any-relation_at : (t : F → Bool) (rel : List (R × List Range)) (d : ℤ) → list_any t (relation_at cmp at rel d) ≡ list_any (λ p. holds_day p.1 d && t (at p.0 d)) rel
  list_any-relation_at t rel d = list_any-set_of o.exact t (present at rel d) ∙ list_any-present at t rel d
