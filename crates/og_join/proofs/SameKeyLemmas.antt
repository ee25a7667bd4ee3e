-- Hits that are made of left rows and the right rows of their keys, and what is joined of them.
use Rattle.std.proofs.Common.{◌≡◌, ◌++◌, ◌+◌, ◌*◌, ◌<◌, ◌≤◌, ◌&&◌, ◌↔◌, ℕ, ℤ, Bool, true, false, List, [], ◌∷◌, length, get_or, filter, map, take, ◌||◌, if◌then◌else◌, Ordering, refl, sym, ap, ap₂, ◌∙◌, subst, arith}
use Rattle.std.specs.Cmp.{IsTotalOrder}
use Rattle.std.specs.List.{All, Contains, flat_map, list_any}
use Rattle.std.specs.List.Sorted.{IsPermutation}
use Rattle.std.specs.Ordering.{eq_by_cmp}
use Rattle.std.proofs.lemmas.Bool.{true≢false}
use Rattle.std.proofs.Math.Bool.{and-false}
use Rattle.std.proofs.lemmas.List.{append_assoc, get_or-map, length-append, length-map, map-append, take_more}
use Rattle.std.proofs.lemmas.List.Concat.{flat_map-cons}
use Rattle.std.proofs.lemmas.List.Elements.{All-append, All-contains, All-head, All-nil, All-push, All-same, All-tail, All-weaker, Contains-append_left, Contains-append_right}
use Rattle.std.proofs.lemmas.List.Folds.{list_any-append}
use Rattle.std.proofs.lemmas.List.Sorted.{All-permutation, length_permutation}
use Rattle.std.proofs.lemmas.Map.Views.{All-map-IsPermutation}
use denote.Ref.{Bor}
use Rattle.og_ops.proofs.MetLemmas.{lent_found-IsPermutation}
use Rattle.og_base.specs.Calendar.{IsRefDay}
use Rattle.og_base.specs.Ranges.{Range, holds_day}
use Rattle.og_base.specs.Set.{IsExactOrder, set_of}
use Rattle.og_base.specs.declared.range.FixedPeriod.{FixedPeriod}
use Rattle.og_par.specs.Phase.{MadeOfEach}
use Rattle.og_rel.specs.Relations.{present, relation_at}
use Rattle.og_rel.proofs.AlgebraLemmas.{length-filter_le}
use Rattle.og_rel.proofs.PresentLemmas.{present-append}
use Rattle.og_ops.specs.Days.{is_hit, OnNoDay}
use Rattle.og_ops.specs.Lending.{lent}
use Rattle.og_rel.specs.declared.pair.Pair.{Pair}
use Rattle.og_ops.specs.declared.semijoins.KeyedRow.{KeyedRow}
use Rattle.og_join.specs.Hits.{stored_hits}
use Rattle.og_join.specs.Joined.{joined, AreTold, DoOverlap}
use Rattle.og_join.specs.SameKey.{AreHits, AreHitsOf, AreLent, HaveDayKeys, HaveSpans, IsNear}
use Rattle.og_join.specs.declared.span_key.SpanKey.{SpanKey}
use Rattle.og_join.proofs.HitLemmas.{length-stored_hits, present-hits, present-hit}
use Rattle.og_join.proofs.JoinedLemmas.{ties_turned, joined-append, one_joined-append, one_joined-nil, joined-one, set_of-joined, set_of-images}

-- one more row that is lent
lent-more : {R K : Type 0} (rows : List (KeyedRow R K)) (i : ℕ) (s : KeyedRow R K) → i < length rows → s ≡ get_or rows i s → lent (take (i + 1) rows) ≡ lent (take i rows) ++ (s.row.now, s.days.now) ∷ []
lent-more rows i s l e =
    ap lent (take_more rows i s l ∙ ap (λ q. take i rows ++ q ∷ []) (sym e)) ∙ map-append (λ q. (q.row.now, q.days.now)) (take i rows) (s ∷ [])

module _ {R F : Type 0} (at : R → ℤ → F) where
  module _ (glued : F → F → F) (image : ℤ → F → F) (holds : ℤ → F → Bool) (row : R) (days : List Range) where
    -- without others there are no hits
    pub AreHits-nil : AreHits glued image holds at row days [] []
    AreHits-nil = record { law = λ d r. one_joined-nil (λ x y. image d (glued x y)) (λ x y. holds d (glued x y)) (at row d) (holds_day days d); size = omega arith }

    -- others, and more others
    AreHits-append : (xs ys : List (R × List Range)) (a b : List (Pair R)) → AreHits glued image holds at row days xs a → AreHits glued image holds at row days ys b → AreHits glued image holds at row days (xs ++ ys) (a ++ b)
    AreHits-append xs ys a b h k = record {
      law = λ d r.
          present-hits at d a b ∙ ap₂ (λ us vs. us ++ vs) (h.law d r) (k.law d r)
          ∙ sym (one_joined-append (λ x y. image d (glued x y)) (λ x y. holds d (glued x y)) (at row d) (holds_day days d) (present at xs d) (present at ys d))
          ∙ ap (joined (λ x y. image d (glued x y)) (λ x y. holds d (glued x y)) (present at ((row, days) ∷ []) d)) (sym (present-append at xs ys d));
      size = omega (arith, length-append a b, length-append xs ys, h.size, k.size);
    }

    -- the others up to one more, which add more hits, where a premise on all others tells what each asks
    pub AreHits-more : {K : Type 0} (premise : KeyedRow R K → Type 0) (rows : List (KeyedRow R K)) (i : ℕ) (s : KeyedRow R K) (initial old new a b : List (Pair R)) → i < length rows → s ≡ get_or rows i s
        → (All premise rows → AreHits glued image holds at row days (lent (take i rows)) a) → old ≡ initial ++ a → (premise s → AreHits glued image holds at row days ((s.row.now, s.days.now) ∷ []) b) → new ≡ old ++ b
        → (made : List (Pair R)) × (All premise rows → AreHits glued image holds at row days (lent (take (i + 1) rows)) made) × (new ≡ initial ++ made)
    AreHits-more premise rows i s initial old new a b l e h olds k news = (
      a ++ b,
      λ all. subst (λ others. AreHits glued image holds at row days others (a ++ b)) (sym (lent-more rows i s l e))
          (AreHits-append (lent (take i rows)) ((s.row.now, s.days.now) ∷ []) a b (h all) (k (subst premise (sym e) (all i s l)))),
      news ∙ ap (λ hits. hits ++ b) olds ∙ append_assoc initial a b,
    )

    -- the hit of one other
    pub AreHits-one : (other : R) (other_days : List Range) (h : Pair R) → ((d : ℤ) → IsRefDay d → at h.row d ≡ image d (glued (at row d) (at other d)))
        → ((d : ℤ) → IsRefDay d → holds_day h.days d ≡ is_hit glued holds (at row) (at other) days other_days d) → AreHits glued image holds at row days ((other, other_days) ∷ []) (h ∷ [])
    AreHits-one other other_days h row_is days_are = record {
      law = λ d r.
          present-hit at d h
          ∙ joined-one (λ x y. image d (glued x y)) (λ x y. holds d (glued x y)) (at row d) (at other d) (at h.row d) (holds_day days d) (holds_day other_days d) (holds_day h.days d) (row_is d r) (days_are d r);
      size = omega arith;
    }

    -- no hit, where there is no day
    pub AreHits-none : (other : R) (other_days : List Range) → OnNoDay (is_hit glued holds (at row) (at other) days other_days) → AreHits glued image holds at row days ((other, other_days) ∷ []) []
    AreHits-none other other_days none = record {
      law = λ d r.
          joined-one (λ x y. image d (glued x y)) (λ x y. holds d (glued x y)) (at row d) (at other d) (image d (glued (at row d) (at other d))) (holds_day days d) (holds_day other_days d) false refl (sym (none d r));
      size = omega arith;
    }

module _ {R F : Type 0} (at : R → ℤ → F) (d : ℤ) where
  -- a test of the rows of a day of those that pass is another test of all of them, which holds where both hold
  filter-lent : {K : Type 0} (pass : KeyedRow R K → Bool) (p q : F → Bool) (rows : List (KeyedRow R K)) → All (λ s. q (at s.row.now d) ≡ (pass s && p (at s.row.now d))) rows
      → filter p (present at (lent (filter pass rows)) d) ≡ filter q (present at (lent rows) d)
  filter-lent pass p q [] h = refl
  filter-lent pass p q (s ∷ rows) h =
      first (pass s) (All-head (λ o. q (at o.row.now d) ≡ (pass o && p (at o.row.now d))) s rows h)
      (filter-lent pass p q rows (All-tail (λ o. q (at o.row.now d) ≡ (pass o && p (at o.row.now d))) s rows h))
    where
      kept : List F
      kept = present at (lent (filter pass rows)) d

      all : List F
      all = present at (lent rows) d

      passes : (here : Bool) → q (at s.row.now d) ≡ p (at s.row.now d) → filter p kept ≡ filter q all
          → filter p (if here then at s.row.now d ∷ kept else kept) ≡ filter q (if here then at s.row.now d ∷ all else all)
      passes true e rest = ap₂ (λ b ys. if b then at s.row.now d ∷ ys else ys) (sym e) rest
      passes false e rest = rest

      fails : (here : Bool) → q (at s.row.now d) ≡ false → filter p kept ≡ filter q all → filter p kept ≡ filter q (if here then at s.row.now d ∷ all else all)
      fails true e rest = rest ∙ ap (λ b. if b then at s.row.now d ∷ filter q all else filter q all) (sym e)
      fails false e rest = rest

      first : (b : Bool) → q (at s.row.now d) ≡ (b && p (at s.row.now d)) → filter p kept ≡ filter q all
          → filter p (present at (lent (if b then s ∷ filter pass rows else filter pass rows)) d) ≡ filter q (if holds_day s.days.now d then at s.row.now d ∷ all else all)
      first true e rest = passes (holds_day s.days.now d) e rest
      first false e rest = fails (holds_day s.days.now d) e rest

  -- at most one row joined to those of the others that have its key, is joined to all of them by keys that are equal
  pub joined-keyed : {K : Type 0} {cmp : K → K → Ordering} → IsTotalOrder cmp → (glued : F → F → F) (meets : F → F → Bool) (left_of right_of : F → K) (key : K) (x : F) (h : Bool) (rows : List (KeyedRow R (SpanKey K)))
      → IsRefDay d → left_of x ≡ key → HaveDayKeys at right_of rows
      → joined glued meets (if h then x ∷ [] else []) (present at (lent (filter (λ s. eq_by_cmp cmp s.key.key key) rows)) d)
      ≡ joined glued (λ y z. eq_by_cmp cmp (left_of y) (right_of z) && meets y z) (if h then x ∷ [] else []) (present at (lent rows) d)
  joined-keyed {cmp = cmp} total glued meets left_of right_of key x true rows r is keys =
      ap (λ ys. map (glued x) ys ++ [])
      (filter-lent (λ s. eq_by_cmp cmp s.key.key key) (meets x) (λ z. eq_by_cmp cmp (left_of x) (right_of z) && meets x z) rows
      (λ i e l. ap (λ b. b && meets x (at (get_or rows i e).row.now d)) (ap₂ (eq_by_cmp cmp) is (keys i e l d r) ∙ ties_turned total key (get_or rows i e).key.key)))
  joined-keyed total glued meets left_of right_of key x false rows r is keys = refl

module _ {R F K : Type 0} (glued : F → F → F) (at : R → ℤ → F) (holds : ℤ → F → Bool) where
  -- no hit of two rows whose spans do not overlap, where the spans tell which can meet
  pub AreHits-far : (image : ℤ → F → F) (span : FixedPeriod) (row : R) (days : List Range) (other : KeyedRow R (SpanKey K)) (over : Bool) → ((over ≡ true) ↔ DoOverlap span other.key.span) → over ≡ false
      → IsNear glued at holds span row other → AreHits glued image holds at row days ((other.row.now, other.days.now) ∷ []) []
  AreHits-far image span row days other over tells far near =
      AreHits-none at glued image holds row days other.row.now other.days.now
      (λ d r. never (holds_day days d && holds_day other.days.now d) (holds d (glued (at row d) (at other.row.now d))) (λ h. true≢false (sym (tells.1 (near d r h)) ∙ far)))
    where
      never : (both h : Bool) → (h ≡ true → ⊥) → (both && h) ≡ false
      never both true no_day = absurd (no_day refl)
      never both false no_day = and-false both

  -- each of the right rows is near to a left row
  pub near_of : (left_span right_span : R → FixedPeriod) (p : R × List Range) (rows : List (KeyedRow R (SpanKey K))) → HaveSpans right_span rows → AreTold glued at holds left_span right_span (p ∷ []) (lent rows)
      → All (IsNear glued at holds (left_span p.0) p.0) rows
  near_of left_span right_span p rows spans told k o within d r h =
      let lend : KeyedRow R (SpanKey K) → R × List Range = λ s. (s.row.now, s.days.now) in
      let other : KeyedRow R (SpanKey K) = get_or rows k o in
      let tells : R × List Range → Type 0 = λ q. (d : ℤ) → IsRefDay d → holds d (glued (at p.0 d) (at q.0 d)) ≡ true → DoOverlap (left_span p.0) (right_span q.0) in
      let here : tells (lend other) = subst tells (get_or-map lend rows k o (lend o) within) (told 0 p (omega arith) k (lend o) (subst (λ n. k < n) (sym (length-map rows lend)) within)) in
      subst (λ span. DoOverlap (left_span p.0) span) (spans k o within) (here d r h)

module _ {R F : Type 0} (glued : F → F → F) (at : R → ℤ → F) (holds : ℤ → F → Bool) where
  -- of spans that tell which rows can meet, what they tell of a left row
  abbrev pub Tells : (R → FixedPeriod) → (R → FixedPeriod) → List (R × List Range) → R × List Range → Type 0
  Tells left_span right_span right p = All (λ q. (d : ℤ) → IsRefDay d → holds d (glued (at p.0 d) (at q.0 d)) ≡ true → DoOverlap (left_span p.0) (right_span q.0)) right

  -- they tell it of a left row alone
  pub AreTold-one : (left_span right_span : R → FixedPeriod) (right : List (R × List Range)) (p : R × List Range) → Tells left_span right_span right p → AreTold glued at holds left_span right_span (p ∷ []) right
  AreTold-one left_span right_span right p tells = All-push (Tells left_span right_span right) [] p (All-nil (Tells left_span right_span right)) tells

-- spans that tell which rows can meet of a relation tell it of rows that stand in it
pub AreTold-among : {R F : Type 0} (glued : F → F → F) (at : R → ℤ → F) (holds : ℤ → F → Bool) (left_span right_span : R → FixedPeriod) (left right others : List (R × List Range))
    → All (Contains right) others → AreTold glued at holds left_span right_span left right → AreTold glued at holds left_span right_span left others
AreTold-among {R} glued at holds left_span right_span left right others among told i p l =
    λ k q within. All-contains (λ o. (d : ℤ) → IsRefDay d → holds d (glued (at (get_or left i p).0 d) (at o.0 d)) ≡ true → DoOverlap (left_span (get_or left i p).0) (right_span o.0))
    right (get_or others k q) (told i p l) (among k q within)

module _ {R F : Type 0} (at : R → ℤ → F) (glued : F → F → F) (image : ℤ → F → F) (same_key : F → F → Bool) (holds : ℤ → F → Bool) (right : List (R × List Range)) where
  -- of no left rows
  AreHitsOf-nil : AreHitsOf glued image same_key holds at [] right []
  AreHitsOf-nil = record { law = λ d r. refl; size = omega arith }

  -- of left rows, and more left rows
  AreHitsOf-append : (xs ys : List (R × List Range)) (a b : List (Pair R)) → AreHitsOf glued image same_key holds at xs right a → AreHitsOf glued image same_key holds at ys right b → AreHitsOf glued image same_key holds at (xs ++ ys) right (a ++ b)
  AreHitsOf-append xs ys a b h k = record {
    law = λ d r.
        present-hits at d a b ∙ ap₂ (λ us vs. us ++ vs) (h.law d r) (k.law d r)
        ∙ sym (joined-append (λ x y. image d (glued x y)) (λ x y. same_key x y && holds d (glued x y)) (present at xs d) (present at ys d) (present at right d))
        ∙ ap (λ lefts. joined (λ x y. image d (glued x y)) (λ x y. same_key x y && holds d (glued x y)) lefts (present at right d)) (sym (present-append at xs ys d));
    size = both_size (length (a ++ b)) (length a) (length b) (length (xs ++ ys)) (length xs) (length ys) (length right) (length-append a b) (length-append xs ys) h.size k.size;
  }
    where
      both_size : (whole a b lefts xs ys n : ℕ) → whole ≡ a + b → lefts ≡ xs + ys → a ≤ xs * n → b ≤ ys * n → whole ≤ lefts * n
      both_size whole a b lefts xs ys n e f h k = grind (arith, e, f, h, k)

  -- of all left rows, where what is told of all gives what is made of each
  pub AreHitsOf-all : (told : R × List Range → Type 0) (gives : Pair R → List (Pair R) → Type 0) → ((p : Pair R) (made : List (Pair R)) → told (p.row, p.days) → gives p made → AreHitsOf glued image same_key holds at ((p.row, p.days) ∷ []) right made)
      → (pairs : List (Pair R)) (made : List (Pair R)) → All told (map (λ p. (p.row, p.days)) pairs) → MadeOfEach gives pairs made → AreHitsOf glued image same_key holds at (map (λ p. (p.row, p.days)) pairs) right made
  AreHitsOf-all told gives each [] made all m = subst (AreHitsOf glued image same_key holds at [] right) (sym m) AreHitsOf-nil
  AreHitsOf-all told gives each (p ∷ pairs) made all m =
      let lefts = map (λ q. (q.row, q.days)) pairs in
      subst (AreHitsOf glued image same_key holds at ((p.row, p.days) ∷ lefts) right) (sym m.4)
      (AreHitsOf-append ((p.row, p.days) ∷ []) lefts m.0 m.1 (each p m.0 (All-head told (p.row, p.days) lefts all) m.2)
      (AreHitsOf-all told gives each pairs m.1 (All-tail told (p.row, p.days) lefts all) m.3))

  -- they are the images of what is joined of the relations, where these right rows are found as all are
  pub hits_law : {cmp : F → F → Ordering} → IsExactOrder cmp → (left whole rel : List (R × List Range)) (hits : List (Pair R)) (d : ℤ) → IsRefDay d → rel ≡ stored_hits hits
      → All (λ x. (t : F → Bool) → list_any (λ y. (same_key x y && holds d (glued x y)) && t y) (present at right d) ≡ list_any (λ y. (same_key x y && holds d (glued x y)) && t y) (present at whole d)) (present at left d)
      → AreHitsOf glued image same_key holds at left right hits
      → relation_at cmp at rel d ≡ set_of cmp (map (image d) (joined glued (λ x y. same_key x y && holds d (glued x y)) (relation_at cmp at left d) (relation_at cmp at whole d)))
  hits_law {cmp} o left whole rel hits d r is same h =
      ap (λ rows. relation_at cmp at rows d) is
      ∙ ap (set_of cmp) (h.law d r)
      ∙ set_of-joined (λ x y. image d (glued x y)) (λ x y. same_key x y && holds d (glued x y)) o (present at left d) (present at right d) (present at whole d) same
      ∙ set_of-images o glued (λ x y. same_key x y && holds d (glued x y)) (image d) (relation_at cmp at left d) (relation_at cmp at whole d)

  -- there are at most as many as pairs of rows
  pub hits_size : (left rel : List (R × List Range)) (hits : List (Pair R)) (m : ℕ) → rel ≡ stored_hits hits → length right ≤ m → AreHitsOf glued image same_key holds at left right hits → length rel ≤ length left * m
  hits_size left rel hits m is most h = most_of (length rel) (length hits) (length left) (length right) m (subst (λ xs. length xs ≤ length hits) (sym is) (length-stored_hits hits)) h.size most
    where
      most_of : (rel hits n right m : ℕ) → rel ≤ hits → hits ≤ n * right → right ≤ m → rel ≤ n * m
      most_of rel hits n right m h k l = grind (arith, h, k, l)

module _ {R F K : Type 0} (at : R → ℤ → F) (glued : F → F → F) (image : ℤ → F → F) (holds : ℤ → F → Bool) {cmp : K → K → Ordering} (total : IsTotalOrder cmp) (left_of right_of : F → K) where
  -- the hits of a left row and the right rows that have its key are those of it and all right rows, by keys that are equal
  pub AreHitsOf-row : (row : R) (days : List Range) (rows others : List (KeyedRow R (SpanKey K))) (key : K) (made : List (Pair R)) → others ≡ filter (λ o. eq_by_cmp cmp o.key.key key) rows
      → ((d : ℤ) → IsRefDay d → left_of (at row d) ≡ key) → HaveDayKeys at right_of rows → AreHits glued image holds at row days (lent others) made
      → AreHitsOf glued image (λ x y. eq_by_cmp cmp (left_of x) (right_of y)) holds at ((row, days) ∷ []) (lent rows) made
  AreHitsOf-row row days rows others key made are key_is keys h = record {
    law = λ d r.
        h.law d r ∙ ap (λ os. joined (λ x y. image d (glued x y)) (λ x y. holds d (glued x y)) (present at ((row, days) ∷ []) d) (present at (lent os) d)) are
        ∙ joined-keyed at d total (λ x y. image d (glued x y)) (λ x y. holds d (glued x y)) left_of right_of key (at row d) (holds_day days d) rows r (key_is d r) keys;
    size =
        let lend : KeyedRow R (SpanKey K) → R × List Range = λ s. (s.row.now, s.days.now) in
        let some = filter (λ o. eq_by_cmp cmp o.key.key key) rows in
        omega (arith, h.size, ap (λ os. length (lent os)) are, length-map some lend, length-map rows lend, length-filter_le (λ o. eq_by_cmp cmp o.key.key key) rows);
  }

module _ {R F K : Type 0} (at : R → ℤ → F) (cmp : K → K → Ordering) (key_of : F → K) (span_of : R → FixedPeriod) (sought : Bool × List K) where
  -- rows that are lent, in another order
  pub AreLent-permutation : (right : List (R × List Range)) (rows new : List (KeyedRow R (SpanKey K))) → IsPermutation rows new → AreLent at cmp key_of span_of sought right rows → AreLent at cmp key_of span_of sought right new
  AreLent-permutation right rows new moved h = record {
    keys = All-permutation (λ s. (d : ℤ) → IsRefDay d → key_of (at s.row.now d) ≡ s.key.key) rows new moved h.keys;
    spans = All-permutation (λ s. span_of s.row.now ≡ s.key.span) rows new moved h.spans;
    found = λ t d r of_sought. lent_found-IsPermutation at t d rows new moved ∙ h.found t d r of_sought;
    among = All-map-IsPermutation (λ s. (s.row.now, s.days.now)) (Contains right) rows new moved h.among;
    size = omega (arith, length_permutation rows new moved, h.size);
  }

  -- of no right rows
  AreLent-nil : AreLent at cmp key_of span_of sought [] []
  AreLent-nil = record {
    keys = All-nil (λ s. (d : ℤ) → IsRefDay d → key_of (at s.row.now d) ≡ s.key.key);
    spans = All-nil (λ s. span_of s.row.now ≡ s.key.span);
    found = λ t d r of_sought. refl;
    among = All-nil (Contains []);
    size = omega arith;
  }

  -- of right rows, and more right rows
  AreLent-append : (xs ys : List (R × List Range)) (a b : List (KeyedRow R (SpanKey K))) → AreLent at cmp key_of span_of sought xs a → AreLent at cmp key_of span_of sought ys b → AreLent at cmp key_of span_of sought (xs ++ ys) (a ++ b)
  AreLent-append xs ys a b h k =
      let lend : KeyedRow R (SpanKey K) → R × List Range = λ s. (s.row.now, s.days.now) in
      let both : lent (a ++ b) ≡ lent a ++ lent b = map-append lend a b in
      record {
        keys = All-append (λ s. (d : ℤ) → IsRefDay d → key_of (at s.row.now d) ≡ s.key.key) a b h.keys k.keys;
        spans = All-append (λ s. span_of s.row.now ≡ s.key.span) a b h.spans k.spans;
        found = λ t d r of_sought.
            ap (λ rel. list_any t (present at rel d)) both
            ∙ ap (list_any t) (present-append at (lent a) (lent b) d) ∙ list_any-append t (present at (lent a) d) (present at (lent b) d)
            ∙ ap₂ (λ u v. u || v) (h.found t d r of_sought) (k.found t d r of_sought)
            ∙ sym (list_any-append t (present at xs d) (present at ys d)) ∙ ap (list_any t) (sym (present-append at xs ys d));
        among = All-same (Contains (xs ++ ys)) (lent (a ++ b)) (lent a ++ lent b) both
            (All-append (Contains (xs ++ ys)) (lent a) (lent b)
            (All-weaker (Contains xs) (Contains (xs ++ ys)) (λ p i. Contains-append_left xs ys p i) (lent a) h.among)
            (All-weaker (Contains ys) (Contains (xs ++ ys)) (λ p i. Contains-append_right xs ys p i) (lent b) k.among));
        size = omega (arith, length-append a b, length-append xs ys, h.size, k.size);
      }

  -- of blocks of right rows
  pub AreLent-blocks : (blocks : List (Bor (List (Pair R)))) (rows : List (KeyedRow R (SpanKey K))) → MadeOfEach (λ block made. AreLent at cmp key_of span_of sought (map (λ p. (p.row, p.days)) block.now) made) blocks rows
      → AreLent at cmp key_of span_of sought (map (λ p. (p.row, p.days)) (flat_map (λ b. b.now) blocks)) rows
  AreLent-blocks [] rows m = subst (AreLent at cmp key_of span_of sought []) (sym m) AreLent-nil
  AreLent-blocks (b ∷ blocks) rows m =
      let pair_of : Pair R → R × List Range = λ p. (p.row, p.days) in
      subst (λ right. AreLent at cmp key_of span_of sought right rows)
      (sym (ap (map pair_of) (flat_map-cons (λ c. c.now) b blocks) ∙ map-append pair_of b.now (flat_map (λ c. c.now) blocks)))
      (subst (AreLent at cmp key_of span_of sought (map pair_of b.now ++ map pair_of (flat_map (λ c. c.now) blocks))) (sym m.4)
      (AreLent-append (map pair_of b.now) (map pair_of (flat_map (λ c. c.now) blocks)) m.0 m.1 m.2 (AreLent-blocks blocks m.1 m.3)))
