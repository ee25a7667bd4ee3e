-- What is left of arguments that are taken one by one.
use Rattle.std.proofs.Common.{◌≡◌, ◌∷◌, [], Option, Some, None, drop, sym, ap, ◌∙◌}
use Rattle.std.proofs.lemmas.List.{nil_from_length}
use Rattle.std.specs.Vec.Iter.{into_iter_steps}
use Rattle.std.specs.declared.vec.IntoIter.{IntoIter}

module _ {X A : Type 0} where
  -- none is left where none came
  pub none_left : (s t : IntoIter X A) → into_iter_steps s None t → s.rest.items ≡ []
  none_left s t h = nil_from_length s.rest.items (sym s.rest.ok.0 ∙ h.0)

  -- one came
  pub next_one : (x : X) (s t : IntoIter X A) → into_iter_steps s (Some x) t → s.rest.items ≡ x ∷ t.rest.items
  next_one x s t h = h.0

  -- all but the first are left
  pub first_gone : (r : Option X) (s t : IntoIter X A) → into_iter_steps s r t → t.rest.items ≡ drop 1 s.rest.items
  first_gone None s t h = nil_from_length t.rest.items (sym t.rest.ok.0 ∙ h.1) ∙ sym (ap (drop 1) (none_left s t h))
  first_gone (Some x) s t h = sym (ap (drop 1) h.0)
