-- Whether a row meets some of the rows that are lent from a relation: of one more row, and of the rows in another order.
use Rattle.std.proofs.Common.{◌≡◌, ◌++◌, ◌+◌, ◌<◌, ◌&&◌, ◌||◌, ℕ, ℤ, Bool, true, false, List, [], ◌∷◌, length, get_or, filter, take, drop, if◌then◌else◌, Ordering, sym, ap, ◌∙◌}
use Rattle.std.specs.List.{list_any}
use Rattle.std.specs.List.Sorted.{IsPermutation}
use Rattle.std.proofs.Math.Bool.{and-false, and-true, or-false}
use Rattle.std.proofs.lemmas.List.{map-append, take-append-drop, take_more}
use Rattle.std.proofs.lemmas.List.Elements.{filter_agree}
use Rattle.std.proofs.lemmas.List.Folds.{list_any-append}
use Rattle.std.proofs.lemmas.List.Sorted.{IsPermutation-map, list_any-IsPermutation}
use Rattle.og_base.specs.Ranges.{Range, holds_day}
use Rattle.og_base.specs.Set.{IsExactOrder}
use Rattle.og_base.proofs.SetMembers.{list_any-set_of}
use Rattle.og_rel.specs.Relations.{present, relation_at}
use Rattle.og_rel.proofs.PresentLemmas.{present-append, list_any-present}
use Rattle.og_ops.specs.declared.semijoins.KeyedRow.{KeyedRow}
use Rattle.og_ops.specs.Lending.{lent}
use Rattle.og_ops.specs.Wanted.{is_wanted}
use Rattle.og_ops.proofs.EachLemmas.{passing_at}

module _ {F : Type 0} (t : F → Bool) (x : F) where
  -- a test of a row that is there on its days
  any_one : (here : Bool) → (t x && here) ≡ list_any t (if here then x ∷ [] else [])
  any_one true = and-true (t x) ∙ sym (or-false (t x))
  any_one false = and-false (t x)

  -- the days found so far, and those on which the row is there and meets
  pub met_one : (all found shared here : Bool) → all ≡ (found || shared) → shared ≡ (t x && here) → all ≡ (found || list_any t (if here then x ∷ [] else []))
  met_one all found shared here e k = e ∙ ap (λ b. found || b) (k ∙ any_one here)

  -- a row that does not meet adds nothing
  pub met_none : (found here : Bool) → t x ≡ false → found ≡ (found || list_any t (if here then x ∷ [] else []))
  met_none found here e = sym (or-false found) ∙ ap (λ b. found || b) (sym (ap (λ b. b && here) e) ∙ any_one here)

module _ {R F K : Type 0} (at : R → ℤ → F) (t : F → Bool) (d : ℤ) where
  -- a test of the rows of a day of one more row
  pub lent_found_more : (rows : List (KeyedRow R K)) (i : ℕ) (s : KeyedRow R K) → i < length rows → s ≡ get_or rows i s
      → (list_any t (present at (lent (take i rows)) d) || list_any t (present at ((s.row.now, s.days.now) ∷ []) d)) ≡ list_any t (present at (lent (take (i + 1) rows)) d)
  lent_found_more rows i s l e =
      sym (ap (λ q. list_any t (present at (lent q) d)) (take_more rows i s l ∙ ap (λ q. take i rows ++ q ∷ []) (sym e))
      ∙ ap (λ q. list_any t (present at q d)) (map-append (λ q. (q.row.now, q.days.now)) (take i rows) (s ∷ []))
      ∙ ap (list_any t) (present-append at (lent (take i rows)) ((s.row.now, s.days.now) ∷ []) d)
      ∙ list_any-append t (present at (lent (take i rows)) d) (present at ((s.row.now, s.days.now) ∷ []) d))

  -- a test of the rows of a day, by two parts of them
  pub lent_halves : (rows : List (KeyedRow R K)) (i : ℕ)
      → (list_any t (present at (lent (take i rows)) d) || list_any t (present at (lent (drop i rows)) d)) ≡ list_any t (present at (lent rows) d)
  lent_halves rows i =
      sym (ap (λ q. list_any t (present at (lent q) d)) (sym (take-append-drop i rows))
      ∙ ap (λ q. list_any t (present at q d)) (map-append (λ q. (q.row.now, q.days.now)) (take i rows) (drop i rows))
      ∙ ap (list_any t) (present-append at (lent (take i rows)) (lent (drop i rows)) d)
      ∙ list_any-append t (present at (lent (take i rows)) d) (present at (lent (drop i rows)) d))

  -- a test of the rows of a day in another order
  pub lent_found-IsPermutation : (rows sorted : List (KeyedRow R K)) → IsPermutation rows sorted → list_any t (present at (lent sorted) d) ≡ list_any t (present at (lent rows) d)
  lent_found-IsPermutation rows sorted moved =
      list_any-present at t (lent sorted) d
      ∙ sym (list_any-IsPermutation (λ p. holds_day p.1 d && t (at p.0 d)) (lent rows) (lent sorted) (IsPermutation-map (λ q. (q.row.now, q.days.now)) rows sorted moved))
      ∙ sym (list_any-present at t (lent rows) d)

-- what is kept of the rows of a relation, by tests of right rows that are lent, is what is kept by tests of the right relation
pub met_law : {R F : Type 0} {cmp : F → F → Ordering} → IsExactOrder cmp → (at : R → ℤ → F) (meets : F → F → Bool) (wanted : Bool) (given others : List (KeyedRow R ℕ)) (left right kept : List (R × List Range)) (d : ℤ)
    → given ≡ others → ((t : F → Bool) → list_any t (present at (lent others) d) ≡ list_any t (present at right d))
    → present at kept d ≡ filter (λ x. is_wanted wanted (list_any (meets x) (present at (lent given) d))) (present at left d)
    → relation_at cmp at kept d ≡ filter (λ x. is_wanted wanted (list_any (meets x) (relation_at cmp at right d))) (relation_at cmp at left d)
met_law {F = F} {cmp = cmp} o at meets wanted given others left right kept d is same e =
    let p : F → Bool = λ x. is_wanted wanted (list_any (meets x) (present at (lent given) d)) in
    let q : F → Bool = λ x. is_wanted wanted (list_any (meets x) (relation_at cmp at right d)) in
    passing_at o at p left kept d e
    ∙ filter_agree p q (λ x. ap (is_wanted wanted)
    (ap (λ rows. list_any (meets x) (present at (lent rows) d)) is ∙ same (meets x) ∙ sym (list_any-set_of o.exact (meets x) (present at right d)))) (relation_at cmp at left d)
