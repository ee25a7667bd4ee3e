-- The first that an item has, in a loop over the items.
use Rattle.std.proofs.Common.{◌≡◌, ◌+◌, ◌<◌, ◌≤◌, ℕ, List, [], ◌∷◌, Option, Some, None, length, get_or, drop, map, slice_get, unwrap_or, refl, sym, ap, ◌∙◌}
use Rattle.std.specs.Option.{option_or}
use Rattle.std.proofs.lemmas.List.{at_drop_more, at_drop_all}
use Rattle.std.proofs.lemmas.Option.{slice_get_within, unwrap_or-slice_get}
use Rattle.og_sql_outside.specs.Outside.{first_in}
use Rattle.og_sql_outside.specs.declared.values.Outside.{Outside}

-- from an item on: the item's, or else the first behind it
pub first_in-item : {A : Type 0} (f : A → Option Outside) (xs : List A) (i : ℕ) (x : A) → i < length xs → x ≡ get_or xs i x
    → first_in f (drop i xs) ≡ option_or (f x) (first_in f (drop (i + 1) xs))
first_in-item f xs i x within is = at_drop_more (first_in f) xs i x within ∙ ap (λ y. option_or (f y) (first_in f (drop (i + 1) xs))) (sym is)

-- the same of an item that was asked for
pub first_in-at : {A : Type 0} (f : A → Option Outside) (xs : List A) (i : ℕ) (x : A) → slice_get xs i ≡ Some x
    → first_in f (drop i xs) ≡ option_or (f x) (first_in f (drop (i + 1) xs))
first_in-at f xs i x at =
    first_in-item f xs i x (slice_get_within xs i x at) (ap (λ found. unwrap_or found x) (sym at) ∙ unwrap_or-slice_get xs i x)

-- from the end on: none
pub first_in-end : {A : Type 0} (f : A → Option Outside) (xs : List A) (i : ℕ) → length xs ≤ i → first_in f (drop i xs) ≡ None
first_in-end f xs i past = at_drop_all (first_in f) xs i past

-- among what a function makes of the items
pub first_in-map : {A B : Type 0} (f : B → Option Outside) (g : A → B) (xs : List A) → first_in f (map g xs) ≡ first_in (λ x. f (g x)) xs
first_in-map f g [] = refl
first_in-map f g (x ∷ xs) = ap (option_or (f (g x))) (first_in-map f g xs)

-- the steps of a loop over items, for rewriting
pub ruleset firsts = (first_in-item, first_in-end)
