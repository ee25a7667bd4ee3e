-- Rows of a day that are joined: of one row, of lists one after the other, of the rows of one key, of sets, and their images.
use Rattle.std.proofs.Common.{◌≡◌, ◌++◌, ◌&&◌, ◌||◌, Bool, true, false, List, [], ◌∷◌, map, filter, if◌then◌else◌, Ordering, Less, Equal, Greater, refl, sym, ap, ap₂, ◌∙◌}
use Rattle.std.specs.Cmp.{IsTotalOrder}
use Rattle.std.specs.List.{All, list_any}
use Rattle.std.specs.Ordering.{eq_by_cmp, is_eq, ordering_reverse}
use Rattle.std.proofs.lemmas.Grind.{flat_map-append}
use Rattle.std.proofs.lemmas.List.{append-nil, map-append}
use Rattle.std.proofs.lemmas.List.Elements.{All-head, All-tail, All-weaker, filter-append}
use Rattle.og_base.specs.Set.{IsExactOrder, set_of}
use Rattle.og_base.proofs.SetMembers.{list_any-filter, list_any-map, list_any-set_of}
use Rattle.og_rel.proofs.AlgebraLemmas.{same_set_by_tests, list_any-flat_map}
use Rattle.og_ops.proofs.RowLemmas.{any_alike}
use Rattle.og_join.specs.Joined.{joined}

-- keys tie in either order
pub ties_turned : {K : Type 0} {cmp : K → K → Ordering} → IsTotalOrder cmp → (a b : K) → eq_by_cmp cmp a b ≡ eq_by_cmp cmp b a
ties_turned {cmp = cmp} total a b = ap is_eq (total.antisymm a b) ∙ turned (cmp b a)
  where
    turned : (o : Ordering) → is_eq (ordering_reverse o) ≡ is_eq o
    turned Less = refl
    turned Equal = refl
    turned Greater = refl

-- two tests that are alike of each member of a list find alike in it
any_alike_within : {F : Type 0} (p q : F → Bool) (xs : List F) → All (λ x. p x ≡ q x) xs → list_any p xs ≡ list_any q xs
any_alike_within p q [] h = refl
any_alike_within p q (x ∷ xs) h = ap₂ (λ a b. a || b) (All-head (λ y. p y ≡ q y) x xs h) (any_alike_within p q xs (All-tail (λ y. p y ≡ q y) x xs h))

module _ {F : Type 0} (glued : F → F → F) (meets : F → F → Bool) where
  -- two lists on the left, one after the other
  pub joined-append : (xs ys zs : List F) → joined glued meets (xs ++ ys) zs ≡ joined glued meets xs zs ++ joined glued meets ys zs
  joined-append xs ys zs = flat_map-append (λ x. map (glued x) (filter (meets x) zs)) xs ys

  -- at most one row on the left, and two lists on the right, one after the other
  pub one_joined-append : (x : F) (h : Bool) (ys zs : List F)
      → joined glued meets (if h then x ∷ [] else []) (ys ++ zs) ≡ joined glued meets (if h then x ∷ [] else []) ys ++ joined glued meets (if h then x ∷ [] else []) zs
  one_joined-append x true ys zs =
      append-nil (map (glued x) (filter (meets x) (ys ++ zs))) ∙ ap (map (glued x)) (filter-append (meets x) ys zs) ∙ map-append (glued x) (filter (meets x) ys) (filter (meets x) zs)
      ∙ ap₂ (λ a b. a ++ b) (sym (append-nil (map (glued x) (filter (meets x) ys)))) (sym (append-nil (map (glued x) (filter (meets x) zs))))
  one_joined-append x false ys zs = refl

  -- at most one row on the left, and none on the right
  pub one_joined-nil : (x : F) (h : Bool) → [] ≡ joined glued meets (if h then x ∷ [] else []) []
  one_joined-nil x true = refl
  one_joined-nil x false = refl

  -- at most one row on either side
  pub joined-one : (x y z : F) (h k both : Bool) → z ≡ glued x y → both ≡ ((h && k) && meets x y)
      → (if both then z ∷ [] else []) ≡ joined glued meets (if h then x ∷ [] else []) (if k then y ∷ [] else [])
  joined-one x y z true true both e b = ap₂ (λ c w. if c then w ∷ [] else []) b e ∙ at (meets x y)
    where
      at : (m : Bool) → (if m then glued x y ∷ [] else []) ≡ map (glued x) (if m then y ∷ [] else []) ++ []
      at true = refl
      at false = refl
  joined-one x y z true false both e b = ap (λ c. if c then z ∷ [] else []) b
  joined-one x y z false k both e b = ap (λ c. if c then z ∷ [] else []) b

  -- some joined row passes a test, where some row of the left and some of the right meet and are glued to one that passes
  pub list_any-joined : (t : F → Bool) (xs ys : List F) → list_any t (joined glued meets xs ys) ≡ list_any (λ x. list_any (λ y. meets x y && t (glued x y)) ys) xs
  list_any-joined t xs ys =
      list_any-flat_map t (λ x. map (glued x) (filter (meets x) ys)) xs
      ∙ any_alike (λ x. list_any t (map (glued x) (filter (meets x) ys))) (λ x. list_any (λ y. meets x y && t (glued x y)) ys) xs
      (λ x. list_any-map t (glued x) (filter (meets x) ys) ∙ list_any-filter (λ y. t (glued x y)) (meets x) ys)

  -- the set of what is joined of two lists is that of what is joined of their sets, where no row of the left tells the right list from another by those that it meets
  pub set_of-joined : {cmp : F → F → Ordering} → IsExactOrder cmp → (xs ys zs : List F) → All (λ x. (t : F → Bool) → list_any (λ y. meets x y && t y) ys ≡ list_any (λ y. meets x y && t y) zs) xs
      → set_of cmp (joined glued meets xs ys) ≡ set_of cmp (joined glued meets (set_of cmp xs) (set_of cmp zs))
  set_of-joined {cmp} o xs ys zs same =
      same_set_by_tests o (joined glued meets xs ys) (joined glued meets (set_of cmp xs) (set_of cmp zs))
      (λ t. list_any-joined t xs ys
      ∙ any_alike_within (λ x. list_any (λ y. meets x y && t (glued x y)) ys) (λ x. list_any (λ y. meets x y && t (glued x y)) (set_of cmp zs)) xs
      (All-weaker (λ x. (t : F → Bool) → list_any (λ y. meets x y && t y) ys ≡ list_any (λ y. meets x y && t y) zs) (λ x. list_any (λ y. meets x y && t (glued x y)) ys ≡ list_any (λ y. meets x y && t (glued x y)) (set_of cmp zs))
      (λ x told. told (λ y. t (glued x y)) ∙ sym (list_any-set_of o.exact (λ y. meets x y && t (glued x y)) zs)) xs same)
      ∙ sym (list_any-set_of o.exact (λ x. list_any (λ y. meets x y && t (glued x y)) (set_of cmp zs)) xs)
      ∙ sym (list_any-joined t (set_of cmp xs) (set_of cmp zs)))

-- the set of the images of joined rows is that of what is joined to images
pub set_of-images : {F : Type 0} {cmp : F → F → Ordering} → IsExactOrder cmp → (glued : F → F → F) (meets : F → F → Bool) (image : F → F) (xs ys : List F)
    → set_of cmp (joined (λ x y. image (glued x y)) meets xs ys) ≡ set_of cmp (map image (joined glued meets xs ys))
set_of-images o glued meets image xs ys =
    same_set_by_tests o (joined (λ x y. image (glued x y)) meets xs ys) (map image (joined glued meets xs ys))
    (λ t. list_any-joined (λ x y. image (glued x y)) meets t xs ys ∙ sym (list_any-joined glued meets (λ x. t (image x)) xs ys) ∙ sym (list_any-map t image (joined glued meets xs ys)))
