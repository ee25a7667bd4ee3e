-- Rows in parts and in shares of parts: a part that is cut off, one that is dealt, and lists that rise.
use Rattle.std.proofs.Common.{◌≡◌, ◌++◌, ℕ, List, [], ◌∷◌, take, drop, Ordering, refl, sym, ap, ap₂, ◌∙◌, subst}
use Rattle.std.specs.Prelude.{Some, Vec}
use Rattle.std.specs.List.{All}
use Rattle.std.specs.declared.alloc.Global.{Global}
use Rattle.std.specs.List.Sorted.{IsPermutation, IsStrictlySortedBy}
use Rattle.std.proofs.lemmas.List.{append_assoc, append-nil, take-append-drop}
use Rattle.std.proofs.lemmas.List.Concat.{flat_map-cons}
use Rattle.std.proofs.lemmas.List.Elements.{All-cons, All-nil, All-pop}
use Rattle.std.proofs.lemmas.Grind.{flat_map-append}
use Rattle.std.proofs.lemmas.List.Sorted.{IsPermutation-append_comm, IsPermutation-append_left, IsPermutation-append_right, IsPermutation-trans}
use Rattle.og_base.specs.Set.{IsExactOrder, set_of}
use Rattle.og_base.proofs.SetLemmas.{IsStrictlySortedBy-set_of, set_of-append}
use Rattle.og_rel.specs.Shares.{AreListed, rows_of, rows_of_shares}

module _ {F : Type 0} where
  -- of the parts and one more
  pub rows_of-more : (parts : List (Vec F Global)) (part : Vec F Global) → rows_of (parts ++ part ∷ []) ≡ rows_of parts ++ part.items
  rows_of-more parts part =
      flat_map-append (λ p. p.items) parts (part ∷ []) ∙ ap (λ rows. rows_of parts ++ rows) (flat_map-cons (λ p. p.items) part [] ∙ append-nil part.items)

  -- of the shares and one more
  pub rows_of_shares-more : (shares : List (Vec (Vec F Global) Global)) (share : Vec (Vec F Global) Global) → rows_of_shares (shares ++ share ∷ []) ≡ rows_of_shares shares ++ rows_of share.items
  rows_of_shares-more shares share =
      flat_map-append (λ s. rows_of s.items) shares (share ∷ []) ∙ ap (λ rows. rows_of_shares shares ++ rows) (flat_map-cons (λ s. rows_of s.items) share [] ∙ append-nil (rows_of share.items))

  -- of one share and those behind it
  pub rows_of_shares-cons : (share : Vec (Vec F Global) Global) (shares : List (Vec (Vec F Global) Global)) → rows_of_shares (share ∷ shares) ≡ rows_of share.items ++ rows_of_shares shares
  rows_of_shares-cons share shares = flat_map-cons (λ s. rows_of s.items) share shares

  -- where the last of what is left becomes one more part, what is left and the parts are the same rows
  pub one_part_more : (rows left kept : List F) (parts : List (Vec F Global)) (part : Vec F Global) (n : ℕ) → IsPermutation rows (left ++ rows_of parts)
      → kept ≡ take n left → part.items ≡ drop n left → IsPermutation rows (kept ++ rows_of (parts ++ part ∷ []))
  one_part_more rows left kept parts part n same kept_is part_is =
      let whole = ap₂ (λ a b. a ++ b) kept_is part_is ∙ take-append-drop n left in
      let moved = IsPermutation-append_right kept (part.items ++ rows_of parts) (rows_of parts ++ part.items) (IsPermutation-append_comm part.items (rows_of parts)) in
      subst (λ l. IsPermutation rows (kept ++ l)) (sym (rows_of-more parts part))
      (IsPermutation-trans rows (kept ++ (part.items ++ rows_of parts)) (kept ++ (rows_of parts ++ part.items))
      (subst (IsPermutation rows) (ap (λ l. l ++ rows_of parts) (sym whole) ∙ append_assoc kept part.items (rows_of parts)) same) moved)

  -- and where all that is left does
  pub last_part : (rows : List F) (left : Vec F Global) (parts : List (Vec F Global)) → IsPermutation rows (left.items ++ rows_of parts) → IsPermutation rows (rows_of (parts ++ left ∷ []))
  last_part rows left parts same =
      subst (IsPermutation rows) (sym (rows_of-more parts left))
      (IsPermutation-trans rows (left.items ++ rows_of parts) (rows_of parts ++ left.items) same (IsPermutation-append_comm left.items (rows_of parts)))

  -- a part put behind those of the last share, which becomes the first
  pub dealt : (kept last part old share new : List F) → old ≡ kept ++ last → share ≡ last ++ part → new ≡ share ++ kept → IsPermutation (old ++ part) new
  dealt kept last part old share new old_is share_is new_is =
      let start = ap (λ l. l ++ part) old_is ∙ append_assoc kept last part ∙ ap (λ l. kept ++ l) (sym share_is) in
      subst (λ l. IsPermutation l new) (sym start) (subst (IsPermutation (kept ++ share)) (sym new_is) (IsPermutation-append_comm kept share))

  -- one more part that is dealt
  pub dealt_more : (parts : List (Vec F Global)) (part : Vec F Global) (old new : List F) → IsPermutation (rows_of parts) old → IsPermutation (old ++ part.items) new → IsPermutation (rows_of (parts ++ part ∷ [])) new
  dealt_more parts part old new before step =
      subst (λ l. IsPermutation l new) (sym (rows_of-more parts part))
      (IsPermutation-trans (rows_of parts ++ part.items) (old ++ part.items) new (IsPermutation-append_left part.items (rows_of parts) old before) step)

module _ {F : Type 0} {cmp : F → F → Ordering} (o : IsExactOrder cmp) where
  -- a rising list, alone in a list
  pub listed_alone : (rows : List F) (list : Vec F Global) → list.items ≡ set_of cmp rows → AreListed cmp rows (list ∷ [])
  listed_alone rows list is =
      let rises = subst (IsStrictlySortedBy cmp) (sym is) (IsStrictlySortedBy-set_of o.total rows) in
      (rows_of-more [] list ∙ is, All-cons (λ l. IsStrictlySortedBy cmp l.items) list [] rises (All-nil (λ l. IsStrictlySortedBy cmp l.items)))

  -- one more rising list, put in order with those before
  pub ordered_more : (lists : List (Vec F Global)) (list : Vec F Global) (old new : List F)
      → (All (λ l. IsStrictlySortedBy cmp l.items) lists → old ≡ set_of cmp (rows_of lists))
      → (IsStrictlySortedBy cmp old → IsStrictlySortedBy cmp list.items → new ≡ set_of cmp (old ++ list.items))
      → All (λ l. IsStrictlySortedBy cmp l.items) (lists ++ list ∷ []) → new ≡ set_of cmp (rows_of (lists ++ list ∷ []))
  ordered_more lists list old new before step rise =
      let both = All-pop (λ l. IsStrictlySortedBy cmp l.items) (lists ++ list ∷ []) lists (Some list) refl rise in
      let is = before both.0 in
      step (subst (IsStrictlySortedBy cmp) (sym is) (IsStrictlySortedBy-set_of o.total (rows_of lists))) both.1
      ∙ ap (λ l. set_of cmp (l ++ list.items)) is ∙ set_of-append o (rows_of lists) list.items ∙ ap (set_of cmp) (sym (rows_of-more lists list))
