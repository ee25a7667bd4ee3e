-- The law of the overlap join: what is made of the rows of left spans that overlap right ones is the image of the join.
use Rattle.std.proofs.Common.{◌≡◌, ◌≤◌, ◌*◌, ◌&&◌, ℕ, ℤ, Bool, true, false, List, map, int_lt, Ordering, refl, sym, ap, ap₂, ◌∙◌, arith}
use Rattle.std.specs.List.{All, list_any}
use Rattle.std.proofs.Math.Bool.{and-false}
use Rattle.og_base.specs.Calendar.{IsRefDay}
use Rattle.og_base.specs.Ranges.{Range, holds_day}
use Rattle.og_base.specs.Set.{IsExactOrder, set_of}
use Rattle.og_base.specs.declared.comparison.Outer.{Outer}
use Rattle.og_base.specs.declared.range.FixedPeriod.{FixedPeriod}
use Rattle.og_base.proofs.BoundaryLemmas.{int_lt-yes}
use Rattle.og_base.proofs.SetMembers.{list_any-map}
use Rattle.og_rel.specs.Relations.{present, relation_at}
use Rattle.og_rel.proofs.AlgebraLemmas.{same_set_by_tests}
use Rattle.og_rel.proofs.PresentLemmas.{list_any-relation_at}
use Rattle.og_join.specs.Joined.{joined, DoOverlap, AreTold}
use Rattle.og_join.specs.Overlaps.{overlap}
use Rattle.og_join.specs.Places.{is_at}
use Rattle.og_join.specs.Tried.{has_days, at_row, has_span, AreSpansOf, do_meet, rows_meet, meets_some, AreJoined}
use Rattle.og_ops.proofs.RowLemmas.{any_alike}
use Rattle.og_join.proofs.JoinedLemmas.{list_any-joined}
use Rattle.og_join.proofs.PlaceTests.{same_test, list_any-and, list_any-known, is_at-and, list_any-is_at}

-- the third of four truths
third : (h k c m : Bool) → (((h && k) && c) && m) ≡ true → c ≡ true
third h k true m e = refl
third h k false m e = sym (ap (λ b. b && m) (and-false (h && k))) ∙ e

-- what makes others true adds nothing beside them
and_told : (a b c e m : Bool) → (m ≡ true → (a ≡ true) × (b ≡ true) × (c ≡ true) × (e ≡ true)) → (a && (b && ((c && e) && m))) ≡ m
and_told a b c e true h =
    let all = h refl in
    ap₂ (λ u v. u && (v && ((c && e) && true))) all.0 all.1 ∙ ap₂ (λ u v. (u && v) && true) all.2 all.3
and_told a b c e false h = ap (λ u. a && (b && u)) (and-false (c && e)) ∙ ap (λ u. a && u) (and-false b) ∙ and-false a

-- four truths in order
and_across : (h k c m : Bool) → (h && (k && (c && m))) ≡ (((h && k) && c) && m)
and_across true true c m = refl
and_across true false c m = refl
and_across false k c m = refl

module _ {R F : Type 0} (glued : F → F → F) (at : R → ℤ → F) (holds : ℤ → F → Bool) (left right : List (R × List Range)) (t : F → Bool) (d : ℤ) where
  -- the ends of two spans overlap, and the rows meet
  abbrev both : ℤ → ℤ → R × List Range → ℤ → ℤ → R × List Range → Bool
  both lo hi p rlo rhi q = (int_lt lo rhi && int_lt rlo hi) && do_meet glued at holds t d p q

  module _ (left_span right_span : R → FixedPeriod) (ls rs : List Outer)
      (lefts : AreSpansOf left_span left ls) (rights : AreSpansOf right_span right rs) where
    -- a test of the left spans that overlap some right one is a test of the rows that have them
    any_pair : list_any (meets_some glued at holds left right rs t d) ls ≡ list_any (has_span left_span (λ lo hi p. list_any (has_span right_span (both lo hi p)) right)) left
    any_pair =
        ap (λ test. list_any test ls) (same_test _ _ each)
        ∙ lefts (λ lo hi p. list_any (has_span right_span (both lo hi p)) right)
      where
        within : (a b : Outer) → (overlap (λ o. o.lo) (λ o. o.hi) a b && rows_meet glued at holds left right a.row b.row t d)
            ≡ is_at (λ p. is_at (both a.lo a.hi p b.lo b.hi) right b.row) left a.row
        within a b =
            is_at-and (overlap (λ o. o.lo) (λ o. o.hi) a b) (λ p. is_at (do_meet glued at holds t d p) right b.row) left a.row
            ∙ ap (λ test. is_at test left a.row) (same_test _ _ (λ p. is_at-and (overlap (λ o. o.lo) (λ o. o.hi) a b) (do_meet glued at holds t d p) right b.row))

        each : (a : Outer) → meets_some glued at holds left right rs t d a
            ≡ at_row (λ lo hi p. list_any (has_span right_span (both lo hi p)) right) left a
        each a =
            ap (λ test. list_any test rs) (same_test _ _ (within a))
            ∙ list_any-is_at (λ b p. is_at (both a.lo a.hi p b.lo b.hi) right b.row) rs left a.row
            ∙ ap (λ test. is_at test left a.row) (same_test _ _ (λ p. rights (both a.lo a.hi p)))

    -- where the spans of all rows that meet overlap, it is a test of the pairs of rows
    any_told : IsRefDay d → AreTold glued at holds left_span right_span left right
        → list_any (has_span left_span (λ lo hi p. list_any (has_span right_span (both lo hi p)) right)) left ≡ list_any (λ p. list_any (do_meet glued at holds t d p) right) left
    any_told r told = list_any-known (λ p. All (Told p) right) _ _ row left told
      where
        Told : R × List Range → R × List Range → Type 0
        Told p q = (e : ℤ) → IsRefDay e → holds e (glued (at p.0 e) (at q.0 e)) ≡ true → DoOverlap (left_span p.0) (right_span q.0)

        pair : (p q : R × List Range) → Told p q → (has_days (left_span p.0) && has_span right_span (both (left_span p.0).start (left_span p.0).end p) q) ≡ do_meet glued at holds t d p q
        pair p q know =
            and_told (has_days (left_span p.0)) (has_days (right_span q.0)) (int_lt (left_span p.0).start (right_span q.0).end) (int_lt (right_span q.0).start (left_span p.0).end) (do_meet glued at holds t d p q)
            (λ met. let o = know d r (third (holds_day p.1 d) (holds_day q.1 d) (holds d (glued (at p.0 d) (at q.0 d))) (t (glued (at p.0 d) (at q.0 d))) met) in (
              int_lt-yes (left_span p.0).start (left_span p.0).end o.first,
              int_lt-yes (right_span q.0).start (right_span q.0).end o.second,
              int_lt-yes (left_span p.0).start (right_span q.0).end o.before,
              int_lt-yes (right_span q.0).start (left_span p.0).end o.after,
            ))

        row : (p : R × List Range) → All (Told p) right → has_span left_span (λ lo hi x. list_any (has_span right_span (both lo hi x)) right) p ≡ list_any (do_meet glued at holds t d p) right
        row p know =
            list_any-and (has_days (left_span p.0)) (has_span right_span (both (left_span p.0).start (left_span p.0).end p)) right
            ∙ list_any-known (Told p) (λ q. has_days (left_span p.0) && has_span right_span (both (left_span p.0).start (left_span p.0).end p) q) (do_meet glued at holds t d p) (pair p) right know

  -- a test of the join on the day is a test of the pairs of rows
  any_joined : {cmp : F → F → Ordering} → IsExactOrder cmp
      → list_any t (joined glued (λ x y. holds d (glued x y)) (relation_at cmp at left d) (relation_at cmp at right d)) ≡ list_any (λ p. list_any (do_meet glued at holds t d p) right) left
  any_joined {cmp = cmp} o =
      list_any-joined glued (λ x y. holds d (glued x y)) t (relation_at cmp at left d) (relation_at cmp at right d)
      ∙ list_any-relation_at o at _ left d
      ∙ any_alike _ _ left row
    where
      row : (p : R × List Range) → (holds_day p.1 d && list_any (λ y. holds d (glued (at p.0 d) y) && t (glued (at p.0 d) y)) (relation_at cmp at right d)) ≡ list_any (do_meet glued at holds t d p) right
      row p =
          ap (λ b. holds_day p.1 d && b) (list_any-relation_at o at (λ y. holds d (glued (at p.0 d) y) && t (glued (at p.0 d) y)) right d)
          ∙ list_any-and (holds_day p.1 d) (λ q. holds_day q.1 d && (holds d (glued (at p.0 d) (at q.0 d)) && t (glued (at p.0 d) (at q.0 d)))) right
          ∙ any_alike _ _ right (λ q. and_across (holds_day p.1 d) (holds_day q.1 d) (holds d (glued (at p.0 d) (at q.0 d))) (t (glued (at p.0 d) (at q.0 d))))

-- where a relation is that of the left spans that overlap right ones, it is the image of the join on the day
pub overlap_law : {R F : Type 0} {cmp : F → F → Ordering} → IsExactOrder cmp → (glued : F → F → F) (image : ℤ → F → F) (at : R → ℤ → F) (holds : ℤ → F → Bool) (left_span right_span : R → FixedPeriod)
    (left right made : List (R × List Range)) (ls rs : List Outer) (d : ℤ) → IsRefDay d
    → AreSpansOf left_span left ls → AreSpansOf right_span right rs → AreJoined glued image at holds left right rs ls made → AreTold glued at holds left_span right_span left right
    → relation_at cmp at made d ≡ set_of cmp (map (image d) (joined glued (λ x y. holds d (glued x y)) (relation_at cmp at left d) (relation_at cmp at right d)))
overlap_law {F = F} {cmp = cmp} o glued image at holds left_span right_span left right made ls rs d r lefts rights rows told =
    let glued_rows : List F = joined glued (λ x y. holds d (glued x y)) (relation_at cmp at left d) (relation_at cmp at right d) in
    same_set_by_tests o (present at made d) (map (image d) glued_rows)
    (λ t. let u : F → Bool = λ x. t (image d x) in
    rows t d r
    ∙ any_pair glued at holds left right u d left_span right_span ls rs lefts rights
    ∙ any_told glued at holds left right u d left_span right_span ls rs lefts rights r told
    ∙ sym (any_joined glued at holds left right u d o)
    ∙ sym (list_any-map t (image d) glued_rows))

-- at most the product of rows is made of spans, of which there are no more than rows
pub overlap_size : (made lefts rights n m : ℕ) → made ≤ lefts * rights → lefts ≤ n → rights ≤ m → made ≤ n * m
overlap_size made lefts rights n m h l r = grind (arith, h, l, r)
