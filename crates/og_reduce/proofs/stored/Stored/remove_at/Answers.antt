use Rattle.std.proofs.Common.{◌≡◌, ℕ, List, [], ◌∷◌, length, ap, refl, sym, ◌∙◌, arith}
use Rattle.std.proofs.lemmas.Bool.{eqb-true}
use Rattle.og_rel.specs.Places.{others_at}
use Rattle.og_rel.proofs.PlaceLemmas.{others-none}
use Rattle.og_reduce.proofs.stored.Stored.remove_at.Goals as goal

none_of : (at : List ℕ) → length at ≡ 0 → at ≡ []
none_of [] none = refl
none_of (k ∷ at) none = absurd (omega (arith, none))

pub returns-then-is_empty : goal.returns-then-is_empty
returns-then-is_empty c =
    let at = c.args.at.now in
    sym (others-none c.args.self.now) ∙ ap (λ l. others_at l c.args.self.now) (sym (none_of at (eqb-true (length at) 0 (sym c.is_empty.ensures ∙ c.if-is_empty.true))))
