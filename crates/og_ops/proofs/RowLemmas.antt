-- The rows of a day that an operator makes of those of a relation: of one row, and of all.
use Rattle.std.proofs.Common.{◌≡◌, ◌↔◌, ◌++◌, ◌+◌, ◌*◌, ◌≤◌, ◌&&◌, ◌||◌, ℕ, ℤ, Bool, true, false, not, List, [], ◌∷◌, length, map, filter, take, if◌then◌else◌, Ordering, refl, sym, ap, ap₂, ◌∙◌, subst, arith}
use Rattle.std.specs.List.{list_any}
use Rattle.std.specs.Ordering.{eq_by_cmp}
use Rattle.std.proofs.lemmas.Cmp.{eq_by_cmp_equiv}
use Rattle.std.proofs.lemmas.Grind.{flat_map-append}
use Rattle.std.proofs.lemmas.List.{append-nil, length-append, map-append, take_all}
use Rattle.og_base.specs.Ranges.{Range, holds_day}
use Rattle.og_base.specs.Set.{IsExactOrder, set_of}
use Rattle.og_base.proofs.SetLemmas.{eq_by_cmp-exact}
use Rattle.og_base.proofs.SetMembers.{list_any-map, list_any-set_of}
use Rattle.og_rel.specs.Algebra.{is_in}
use Rattle.og_rel.specs.Relations.{present, stored}
use Rattle.og_rel.proofs.PresentLemmas.{present-push}
use Rattle.og_rel.proofs.AlgebraLemmas.{same_set_by_tests, list_any-flat_map}
use Rattle.og_ops.specs.Plain.{replaced, products}

-- at most one row is stored with its days
pub length-stored : {R : Type 0} (row : R) (days : List Range) → length (stored row days) ≤ 1
length-stored row [] = omega arith
length-stored row (r ∷ rs) = omega arith

module _ {R F : Type 0} (at : R → ℤ → F) where
  -- the rows of a day with a row that is pushed
  pub pushed_rows : (old new : List (R × List Range)) (row : R) (days : List Range) (d : ℤ) (rows : List F)
      → new ≡ old ++ stored row days → (if holds_day days d then at row d ∷ [] else []) ≡ rows → present at new d ≡ present at old d ++ rows
  pushed_rows old new row days d rows e is = ap (λ rel. present at rel d) e ∙ present-push at old row days d ∙ ap (λ more. present at old d ++ more) is

  -- what is made of the rows of as many places as there are is made of all rows
  pub made_all : (f : List F → List F) (rel new : List (R × List Range)) (n : ℕ) (d : ℤ) → length rel ≤ n → present at new d ≡ f (present at (take n rel) d) → present at new d ≡ f (present at rel d)
  made_all f rel new n d l e = e ∙ ap (λ all. f (present at all d)) (take_all n rel l)

-- one more row, or none, is pushed
pub pushed_size : {R : Type 0} (old new : List (R × List Range)) (row : R) (days : List Range) → new ≡ old ++ stored row days → length new ≤ length old + 1
pushed_size old new row days e =
    let more = length-stored row days in
    let all = ap length e ∙ length-append old (stored row days) in
    omega (arith, more, all)

-- a row on those of its days on which it passes is what passes of the row
pub filter-one : {F : Type 0} (p : F → Bool) (x : F) (h k : Bool) → k ≡ (h && p x) → (if k then x ∷ [] else []) ≡ filter p (if h then x ∷ [] else [])
filter-one p x true k e = ap (λ b. if b then x ∷ [] else []) e
filter-one p x false k e = ap (λ b. if b then x ∷ [] else []) e

-- the image of a row on its days
pub map-one : {F : Type 0} (f : F → F) (x : F) (h : Bool) → (if h then f x ∷ [] else []) ≡ map f (if h then x ∷ [] else [])
map-one f x true = refl
map-one f x false = refl

-- a row where the test does not hold, and its image where it does, is the row replaced
pub replaced-one : {F : Type 0} (p : F → Bool) (f : F → F) (x : F) (h others changed : Bool) → others ≡ (h && not (p x)) → changed ≡ (h && p x)
    → (if others then x ∷ [] else []) ++ (if changed then f x ∷ [] else []) ≡ map (replaced p f) (if h then x ∷ [] else [])
replaced-one {F} p f x h others changed e k =
    ap₂ (λ b c. (if b then x ∷ [] else []) ++ (if c then f x ∷ [] else [])) e k ∙ at h
  where
    one : (t : Bool) → (if not t then x ∷ [] else []) ++ (if t then f x ∷ [] else []) ≡ (if t then f x else x) ∷ []
    one true = refl
    one false = refl

    at : (g : Bool) → (if g && not (p x) then x ∷ [] else []) ++ (if g && p x then f x ∷ [] else []) ≡ map (replaced p f) (if g then x ∷ [] else [])
    at true = one (p x)
    at false = refl

-- the size with the products of one row more
pub size_more : (a b i n m : ℕ) → a ≤ i * m → n ≤ m → b ≡ a + n → b ≤ (i + 1) * m
size_more a b i n m h k e = grind (arith, h, k, e)

-- tests that agree on every row agree on a list of rows
pub any_alike : {F : Type 0} (p q : F → Bool) (xs : List F) → ((x : F) → p x ≡ q x) → list_any p xs ≡ list_any q xs
any_alike p q [] h = refl
any_alike p q (x ∷ xs) h = ap₂ (λ a b. a || b) (h x) (any_alike p q xs h)

module _ {F : Type 0} (f : F → F → F) where
  -- products with two lists on the left, one after the other
  pub products-append : (zs xs ys : List F) → products f (xs ++ ys) zs ≡ products f xs zs ++ products f ys zs
  products-append zs xs ys = flat_map-append (λ x. map (f x) zs) xs ys

  -- products of at most one row with two lists on the right, one after the other
  pub one_products-append : (x : F) (h : Bool) (ys zs : List F) → products f (if h then x ∷ [] else []) (ys ++ zs) ≡ products f (if h then x ∷ [] else []) ys ++ products f (if h then x ∷ [] else []) zs
  one_products-append x true ys zs =
      append-nil (map (f x) (ys ++ zs)) ∙ map-append (f x) ys zs ∙ ap₂ (λ a b. a ++ b) (sym (append-nil (map (f x) ys))) (sym (append-nil (map (f x) zs)))
  one_products-append x false ys zs = refl

  -- products of two rows, each on its days
  pub products-one : (x y : F) (h k both : Bool) → both ≡ (h && k) → (if both then f x y ∷ [] else []) ≡ products f (if h then x ∷ [] else []) (if k then y ∷ [] else [])
  products-one x y true true both e = ap (λ b. if b then f x y ∷ [] else []) e
  products-one x y true false both e = ap (λ b. if b then f x y ∷ [] else []) e
  products-one x y false k both e = ap (λ b. if b then f x y ∷ [] else []) e

  -- a test holds of some product, where it does of some row of the left glued to some row of the right
  pub list_any-products : (p : F → Bool) (xs ys : List F) → list_any p (products f xs ys) ≡ list_any (λ x. list_any (λ y. p (f x y)) ys) xs
  list_any-products p xs ys =
      list_any-flat_map p (λ x. map (f x) ys) xs
      ∙ any_alike (λ x. list_any p (map (f x) ys)) (λ x. list_any (λ y. p (f x y)) ys) xs (λ x. list_any-map p (f x) ys)

module _ {F : Type 0} {cmp : F → F → Ordering} (o : IsExactOrder cmp) where
  -- where the truth tells whether two rows are equal, with it a row is the one that is there on its days
  pub is_in-one : (x y : F) (same h : Bool) → (same ≡ true) ↔ (x ≡ y) → (same && h) ≡ is_in cmp x (if h then y ∷ [] else [])
  is_in-one x y same true e =
      at same (eq_by_cmp cmp x y)
      (λ t. subst (λ z. eq_by_cmp cmp x z ≡ true) (e.0 t) ((eq_by_cmp_equiv o.total).refl x))
      (λ t. e.1 (eq_by_cmp-exact o.exact x y t))
    where
      at : (a b : Bool) → (a ≡ true → b ≡ true) → (b ≡ true → a ≡ true) → (a && true) ≡ (b || false)
      at true b there back = sym (ap (λ t. t || false) (there refl))
      at false true there back = back refl
      at false false there back = refl
  is_in-one x y true false e = refl
  is_in-one x y false false e = refl

  -- the set of the images of a set is that of the images of the list
  pub set_of-map : (f : F → F) (xs : List F) → set_of cmp (map f xs) ≡ set_of cmp (map f (set_of cmp xs))
  set_of-map f xs =
      same_set_by_tests o (map f xs) (map f (set_of cmp xs))
      (λ p. list_any-map p f xs ∙ sym (list_any-set_of o.exact (λ x. p (f x)) xs) ∙ sym (list_any-map p f (set_of cmp xs)))

  -- the set of the products of sets is that of the products of the lists
  pub set_of-products : (f : F → F → F) (xs ys : List F) → set_of cmp (products f xs ys) ≡ set_of cmp (products f (set_of cmp xs) (set_of cmp ys))
  set_of-products f xs ys =
      same_set_by_tests o (products f xs ys) (products f (set_of cmp xs) (set_of cmp ys))
      (λ p. list_any-products f p xs ys
      ∙ any_alike (λ x. list_any (λ y. p (f x y)) ys) (λ x. list_any (λ y. p (f x y)) (set_of cmp ys)) xs (λ x. sym (list_any-set_of o.exact (λ y. p (f x y)) ys))
      ∙ sym (list_any-set_of o.exact (λ x. list_any (λ y. p (f x y)) (set_of cmp ys)) xs)
      ∙ sym (list_any-products f p (set_of cmp xs) (set_of cmp ys)))
