-- Lists in turned order.
use Rattle.std.proofs.Common.{◌≡◌, ◌++◌, ◌∷◌, ◌∙◌, List, [], reverse, ap, sym, append_assoc}
use Rattle.std.proofs.lemmas.List.{reverse-append}

module _ {A : Type 0} where
  -- the last of a list, in turned order
  pub reverse-last : (xs ys : List A) (x : A) → xs ≡ ys ++ x ∷ [] → reverse xs ≡ x ∷ reverse ys
  reverse-last xs ys x e = ap reverse e ∙ reverse-append ys (x ∷ [])

  -- one more is moved out
  pub turn-one : (out left rest : List A) (x : A) → left ≡ rest ++ x ∷ [] → (out ++ x ∷ []) ++ reverse rest ≡ out ++ reverse left
  turn-one out left rest x e = append_assoc out (x ∷ []) (reverse rest) ∙ ap (λ ys. out ++ ys) (sym (reverse-last left rest x e))
