-- Set: the rising list of the members of a list, each once.
use Rattle.std.specs.Prelude.{◌≡◌, List, [], ◌∷◌, Contains}
use Rattle.std.specs.Cmp.{IsTotalOrder}
use Rattle.std.specs.declared.cmp.Ordering.{Ordering}
use Rattle.std.specs.declared.cmp.Ordering.TheVariants.{Less, Equal, Greater}

-- only values that are the same tie
abbrev pub IsExact : {F : Type 0} → (F → F → Ordering) → Type 0
IsExact {F} cmp = (x y : F) → cmp x y ≡ Equal → x ≡ y

-- a total order that ties only what is the same
pub record IsExactOrder {F : Type 0} (cmp : F → F → Ordering) : Type 0 where
  pub total : IsTotalOrder cmp
  pub exact : IsExact cmp

abbrev pub by_order : {A : Type 0} → Ordering → A → A → A → A
by_order Less less equal greater = less
by_order Equal less equal greater = equal
by_order Greater less equal greater = greater

-- a rising list with one more member
abbrev pub with_member : {F : Type 0} → (F → F → Ordering) → F → List F → List F
with_member cmp x [] = x ∷ []
with_member cmp x (y ∷ ys) = by_order (cmp x y) (x ∷ y ∷ ys) (y ∷ ys) (y ∷ with_member cmp x ys)

-- the members of a list in rising order, each once
abbrev pub set_of : {F : Type 0} → (F → F → Ordering) → List F → List F
set_of cmp [] = []
set_of cmp (x ∷ xs) = with_member cmp x (set_of cmp xs)

-- each member of the one list is a member of the other
abbrev pub IsWithin : {F : Type 0} → List F → List F → Type 0
IsWithin {F} xs ys = (z : F) → Contains xs z → Contains ys z
