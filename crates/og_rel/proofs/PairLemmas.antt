-- The pairs that the code holds: those that pass a test or do not, and the rows of a day, of pairs one after the other and of the first pairs and one more.
use Rattle.std.proofs.Common.{◌≡◌, ◌≢◌, true≢false, ◌++◌, ◌+◌, ◌<◌, ℕ, ℤ, Bool, true, false, cond, List, [], ◌∷◌, length, get_or, take, map, filter, refl, sym, ap, ◌∙◌}
use Rattle.std.specs.List.{All, flat_map}
use Rattle.std.proofs.lemmas.List.{map-append, take_more}
use Rattle.std.proofs.lemmas.List.Elements.{All-filter, filter_passes}
use Rattle.og_base.specs.Ranges.{IsNormal, Range}
use Rattle.og_rel.specs.declared.pair.Pair.{Pair}
use Rattle.og_rel.specs.Relations.{HasDays, passing, present, stored}
use Rattle.og_rel.specs.Pairs.{has_day, present_of_pairs}
use Rattle.og_rel.proofs.PresentLemmas.{present-append}

module _ {R : Type 0} where
  -- the pairs whose rows pass a test are the rows that pass
  pub passing-pairs : (passes : R → Bool) (pairs : List (Pair R)) → map (λ p. (p.row, p.days)) (filter (λ p. passes p.row) pairs) ≡ passing passes (map (λ p. (p.row, p.days)) pairs)
  passing-pairs passes [] = refl
  passing-pairs passes (p ∷ pairs) =
      elim (passes p.row) as (λ b. map (λ q. (q.row, q.days)) (cond b (p ∷ filter (λ q. passes q.row) pairs) (filter (λ q. passes q.row) pairs))
      ≡ cond b ((p.row, p.days) ∷ passing passes (map (λ q. (q.row, q.days)) pairs)) (passing passes (map (λ q. (q.row, q.days)) pairs))) [
        | true ↦ ap (λ rows. (p.row, p.days) ∷ rows) (passing-pairs passes pairs)
        | false ↦ passing-pairs passes pairs
      ]

module _ {R F : Type 0} (at : R → ℤ → F) (d : ℤ) where
  -- of pairs one after the other
  pub present_of_pairs-append : (a b : List (Pair R)) → present_of_pairs at (a ++ b) d ≡ present_of_pairs at a d ++ present_of_pairs at b d
  present_of_pairs-append a b =
      ap (λ rel. present at rel d) (map-append (λ p. (p.row, p.days)) a b) ∙ present-append at (map (λ p. (p.row, p.days)) a) (map (λ p. (p.row, p.days)) b) d

  -- of the first pairs and one more
  pub present_of_pairs-more : (pairs : List (Pair R)) (i : ℕ) (p : Pair R) → i < length pairs → p ≡ get_or pairs i p
      → present_of_pairs at (take (i + 1) pairs) d ≡ present_of_pairs at (take i pairs) d ++ present_of_pairs at (p ∷ []) d
  present_of_pairs-more pairs i p l e =
      ap (λ q. present_of_pairs at q d) (take_more pairs i p l ∙ ap (λ q. take i pairs ++ q ∷ []) (sym e)) ∙ present_of_pairs-append (take i pairs) (p ∷ [])

module _ {R : Type 0} where
  -- a row is stored where it has a day
  stored-by : (row : R) (days : List Range) → cond (has_day days) ((row, days) ∷ []) [] ≡ stored row days
  stored-by row [] = refl
  stored-by row (r ∷ rs) = refl

  -- the pairs that have a day are the rows stored with their days
  pub stored-pairs : (pairs : List (Pair R)) → map (λ p. (p.row, p.days)) (filter (λ p. has_day p.days) pairs) ≡ flat_map (λ p. stored p.row p.days) pairs
  stored-pairs [] = refl
  stored-pairs (p ∷ pairs) =
      (elim (has_day p.days) as (λ b. map (λ q. (q.row, q.days)) (cond b (p ∷ filter (λ q. has_day q.days) pairs) (filter (λ q. has_day q.days) pairs))
      ≡ cond b ((p.row, p.days) ∷ []) [] ++ flat_map (λ q. stored q.row q.days) pairs) [
        | true ↦ ap (λ rows. (p.row, p.days) ∷ rows) (stored-pairs pairs)
        | false ↦ stored-pairs pairs
      ])
      ∙ ap (λ rows. rows ++ flat_map (λ q. stored q.row q.days) pairs) (stored-by p.row p.days)

  -- each of them has days in the normal form, where each set of days is
  pub days-pairs : (pairs : List (Pair R)) → All (λ p. IsNormal p.days) pairs → All (λ p. HasDays p.days) (filter (λ p. has_day p.days) pairs)
  days-pairs pairs normal k d within =
      (has_some _ (filter_passes (λ p. has_day p.days) pairs k d within), All-filter (λ p. has_day p.days) (λ p. IsNormal p.days) pairs normal k d within)
    where
      has_some : (days : List Range) → has_day days ≡ true → days ≢ []
      has_some [] is none = true≢false (sym is)
      has_some (r ∷ rs) is none = true≢false (sym is ∙ ap has_day none)
