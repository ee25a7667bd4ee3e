-- Blocks of left spans that are joined with all right spans: of one block, and of blocks one after the other.
use Rattle.std.proofs.Common.{◌≡◌, ◌++◌, ◌+◌, ◌*◌, ◌≤◌, ◌||◌, ◌&&◌, ℕ, ℤ, Bool, List, [], ◌∷◌, length, IsPermutation, sym, ap, ap₂, subst, ◌∙◌, arith}
use Rattle.std.specs.List.{flat_map, list_any}
use Rattle.std.proofs.lemmas.Grind.{flat_map-append}
use Rattle.std.proofs.lemmas.List.{length-append}
use Rattle.std.proofs.lemmas.List.Concat.{flat_map-cons}
use Rattle.std.proofs.lemmas.List.Folds.{list_any-append}
use Rattle.std.proofs.lemmas.List.Sorted.{list_any-IsPermutation, length_permutation}
use Rattle.og_base.specs.Ranges.{Range}
use Rattle.og_base.specs.declared.comparison.Outer.{Outer}
use denote.Ref.{Bor}
use Rattle.og_par.specs.Phase.{MadeOfEach}
use Rattle.og_rel.specs.declared.pair.Pair.{Pair}
use Rattle.og_rel.specs.Relations.{present, stored}
use Rattle.og_join.specs.Hits.{stored_hits}
use Rattle.og_rel.proofs.PresentLemmas.{present-append}
use Rattle.og_join.specs.Overlaps.{overlap, overlaps}
use Rattle.og_join.specs.Tried.{rows_pass, meets_some, AreJoined}
use Rattle.og_join.proofs.PlaceTests.{list_any-overlaps, length-overlaps}

-- as many places as of spans that overlap are at most the product of spans
pub places_size : (ls rs : List Outer) (places given : List (ℕ × ℕ)) → given ≡ places → IsPermutation places (overlaps (λ o. o.lo) (λ o. o.hi) 0 0 ls rs) → length given ≤ length ls * length rs
places_size ls rs places given e moved =
    subst (λ n. n ≤ length ls * length rs) (length_permutation _ _ moved ∙ sym (ap length e)) (length-overlaps (λ o. o.lo) (λ o. o.hi) 0 0 ls rs)

-- a test of the rows of the spans at places that overlap is one of the rows of spans that do
pub pairs_of_places : (t : ℕ → ℕ → Bool) (ls rising rs : List Outer) (places given : List (ℕ × ℕ)) → IsPermutation ls rising → given ≡ places → IsPermutation places (overlaps (λ o. o.lo) (λ o. o.hi) 0 0 rising rs)
    → list_any (rows_pass t rising rs) given ≡ list_any (λ a. list_any (λ b. overlap (λ o. o.lo) (λ o. o.hi) a b && t a.row b.row) rs) ls
pairs_of_places t ls rising rs places given same e moved =
    ap (list_any (rows_pass t rising rs)) e
    ∙ list_any-IsPermutation (rows_pass t rising rs) _ _ moved
    ∙ list_any-overlaps (λ o. o.lo) (λ o. o.hi) (rows_pass t rising rs) (λ a b. t a.row b.row) 0 0 rising rs
    (λ m k. ap₂ (λ i j. rows_pass t rising rs (i, j)) (omega arith) (omega arith))
    ∙ sym (list_any-IsPermutation (λ a. list_any (λ b. overlap (λ o. o.lo) (λ o. o.hi) a b && t a.row b.row) rs) ls rising same)

module _ {R F : Type 0} (glued : F → F → F) (image : ℤ → F → F) (at : R → ℤ → F) (holds : ℤ → F → Bool) (left right : List (R × List Range)) (rs : List Outer) where
  -- what some first spans are joined to, and more spans
  AreJoined-append : (xs ys : List Outer) (made more : List (R × List Range)) → AreJoined glued image at holds left right rs xs made → AreJoined glued image at holds left right rs ys more
      → AreJoined glued image at holds left right rs (xs ++ ys) (made ++ more)
  AreJoined-append xs ys made more h k t d r =
      ap (list_any t) (present-append at made more d)
      ∙ list_any-append t (present at made d) (present at more d)
      ∙ ap₂ (λ a b. a || b) (h t d r) (k t d r)
      ∙ sym (list_any-append (meets_some glued at holds left right rs (λ x. t (image d x)) d) xs ys)

  -- of blocks of spans, to at most the product of spans
  pub AreJoined-blocks : (blocks : List (Bor (List Outer))) (hits : List (Pair R))
      → MadeOfEach (λ block made. AreJoined glued image at holds left right rs block.now (stored_hits made) × (length made ≤ length block.now * length rs)) blocks hits
      → AreJoined glued image at holds left right rs (flat_map (λ b. b.now) blocks) (stored_hits hits) × (length hits ≤ length (flat_map (λ b. b.now) blocks) * length rs)
  AreJoined-blocks [] hits m = (λ t d r. ap (λ made. list_any t (present at (stored_hits made) d)) m, omega (arith, ap length m))
  AreJoined-blocks (b ∷ blocks) hits m =
      let rest = AreJoined-blocks blocks m.1 m.3 in
      let all = flat_map (λ c. c.now) blocks in
      let spans : flat_map (λ c. c.now) (b ∷ blocks) ≡ b.now ++ all = flat_map-cons (λ c. c.now) b blocks in
      let made : stored_hits hits ≡ stored_hits m.0 ++ stored_hits m.1 = ap stored_hits m.4 ∙ flat_map-append (λ h. stored h.row h.days) m.0 m.1 in (
        subst (λ ls. AreJoined glued image at holds left right rs ls (stored_hits hits)) (sym spans)
            (subst (AreJoined glued image at holds left right rs (b.now ++ all)) (sym made)
            (AreJoined-append b.now all (stored_hits m.0) (stored_hits m.1) m.2.0 rest.0)),
        both_size (length hits) (length m.0) (length m.1) (length (flat_map (λ c. c.now) (b ∷ blocks))) (length b.now) (length all) (length rs)
            (ap length m.4 ∙ length-append m.0 m.1) (ap length spans ∙ length-append b.now all) m.2.1 rest.1,
      )
    where
      both_size : (whole a b lefts xs ys n : ℕ) → whole ≡ a + b → lefts ≡ xs + ys → a ≤ xs * n → b ≤ ys * n → whole ≤ lefts * n
      both_size whole a b lefts xs ys n e f h k = grind (arith, e, f, h, k)
