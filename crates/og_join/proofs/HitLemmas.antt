-- Rows that were made of two, as a relation: of hits one after the other, and of one.
use Rattle.std.proofs.Common.{◌≡◌, ◌≤◌, ◌++◌, ℤ, List, [], ◌∷◌, length, if◌then◌else◌, ap, ◌∙◌, arith}
use Rattle.std.proofs.lemmas.Grind.{flat_map-append}
use Rattle.std.proofs.lemmas.List.{append-nil, length-append}
use Rattle.og_base.specs.Ranges.{holds_day}
use Rattle.og_rel.specs.declared.pair.Pair.{Pair}
use Rattle.og_ops.proofs.RowLemmas.{length-stored}
use Rattle.og_rel.specs.Relations.{present, stored}
use Rattle.og_rel.proofs.PresentLemmas.{present-append, present-stored}
use Rattle.og_join.specs.Hits.{stored_hits}

-- no more rows are stored than there are hits
pub length-stored_hits : {R : Type 0} (hits : List (Pair R)) → length (stored_hits hits) ≤ length hits
length-stored_hits [] = omega arith
length-stored_hits (h ∷ hits) =
    omega (arith, length-append (stored h.row h.days) (stored_hits hits), length-stored h.row h.days, length-stored_hits hits)

module _ {R F : Type 0} (at : R → ℤ → F) where
  -- the stored rows of a day of hits, one after the other
  pub present-hits : (d : ℤ) (a b : List (Pair R)) → present at (stored_hits (a ++ b)) d ≡ present at (stored_hits a) d ++ present at (stored_hits b) d
  present-hits d a b = ap (λ rel. present at rel d) (flat_map-append (λ h. stored h.row h.days) a b) ∙ present-append at (stored_hits a) (stored_hits b) d

  -- the stored row of a day of one hit
  pub present-hit : (d : ℤ) (h : Pair R) → present at (stored_hits (h ∷ [])) d ≡ (if holds_day h.days d then at h.row d ∷ [] else [])
  present-hit d h = ap (λ rel. present at rel d) (append-nil (stored h.row h.days)) ∙ present-stored at h.row h.days d
