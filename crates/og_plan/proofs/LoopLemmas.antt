-- Steps of loops that append, over the items of a list, what a function makes of each.
use Rattle.std.proofs.Common.{◌≡◌, ◌+◌, ◌++◌, ◌<◌, ◌≤◌, ℕ, Bool, true, false, List, [], ◌∷◌, Option, Some, None, length, get_or, filter, fold, map, take, cond, ap, subst, sym, ◌∙◌}
use Rattle.std.specs.List.{All, flat_map}
use Rattle.std.proofs.lemmas.List.{append-nil, append_assoc, map_more, take_more, take_all}
use Rattle.std.proofs.lemmas.List.Concat.{flat_map-append}
use Rattle.std.proofs.lemmas.List.Elements.{filter_more}
use Rattle.std.proofs.lemmas.List.Sums.{fold_more}
use Rattle.og_plan.specs.Joins.{listed}

-- what is made of the items up to one is made of those before it and of it
pub flat_map_next : {A B : Type 0} (f : A → List B) (xs : List A) (i : ℕ) (x : A) → i < length xs → x ≡ get_or xs i x → flat_map f (take (i + 1) xs) ≡ flat_map f (take i xs) ++ f x
flat_map_next f xs i x within is =
    ap (flat_map f) (take_more xs i x within ∙ ap (λ y. take i xs ++ y ∷ []) (sym is))
    ∙ flat_map-append f (take i xs) (x ∷ [])
    ∙ ap (λ ys. flat_map f (take i xs) ++ ys) (append-nil (f x))

-- the step of a loop that appends what a function makes of each
pub made_more : {A B : Type 0} (f : A → List B) (xs : List A) (i : ℕ) (x : A) (old new : List B) → i < length xs → x ≡ get_or xs i x
    → old ≡ flat_map f (take i xs) → new ≡ old ++ f x → new ≡ flat_map f (take (i + 1) xs)
made_more f xs i x old new within is before step = step ∙ ap (λ ys. ys ++ f x) before ∙ sym (flat_map_next f xs i x within is)

-- so behind what was there
pub made_behind : {A B : Type 0} (f : A → List B) (xs : List A) (i : ℕ) (d : A) (front old new : List B) → i < length xs
    → old ≡ front ++ flat_map f (take i xs) → new ≡ old ++ f (get_or xs i d) → new ≡ front ++ flat_map f (take (i + 1) xs)
made_behind f xs i d front old new within before step =
    let before_it = flat_map f (take i xs) in
    let it = f (get_or xs i d) in
    step ∙ ap (λ ys. ys ++ it) before ∙ append_assoc front before_it it
    ∙ ap (λ ys. front ++ ys) (ap (λ ys. before_it ++ ys) (sym (append-nil it)) ∙ sym (flat_map-append f (take i xs) (get_or xs i d ∷ [])) ∙ ap (flat_map f) (sym (take_more xs i d within)))

-- the step of a loop that appends the image of each
pub mapped_more : {A B : Type 0} (f : A → B) (xs : List A) (i : ℕ) (d : A) (y : B) (old new : List B) → i < length xs
    → old ≡ map f (take i xs) → y ≡ f (get_or xs i d) → new ≡ old ++ y ∷ [] → new ≡ map f (take (i + 1) xs)
mapped_more f xs i d y old new within before made step =
    step ∙ ap (λ ys. ys ++ y ∷ []) before ∙ ap (λ z. map f (take i xs) ++ z ∷ []) made ∙ sym (map_more f xs i d within)

-- the step of a loop that appends the value, where there is one
pub listed_some : {A B : Type 0} (f : A → Option B) (xs : List A) (i : ℕ) (x : A) (y : B) (old new : List B) → i < length xs → x ≡ get_or xs i x
    → old ≡ flat_map (λ a. listed (f a)) (take i xs) → f x ≡ Some y → new ≡ old ++ y ∷ [] → new ≡ flat_map (λ a. listed (f a)) (take (i + 1) xs)
listed_some f xs i x y old new within is before some step = made_more (λ a. listed (f a)) xs i x old new within is before (step ∙ ap (λ o. old ++ listed o) (sym some))

-- and where there is none
pub listed_none : {A B : Type 0} (f : A → Option B) (xs : List A) (i : ℕ) (x : A) (old new : List B) → i < length xs → x ≡ get_or xs i x
    → old ≡ flat_map (λ a. listed (f a)) (take i xs) → f x ≡ None → new ≡ old → new ≡ flat_map (λ a. listed (f a)) (take (i + 1) xs)
listed_none f xs i x old new within is before none step =
    made_more (λ a. listed (f a)) xs i x old new within is before (step ∙ sym (append-nil old) ∙ ap (λ o. old ++ listed o) (sym none))

-- the items that are kept up to one are those kept before it, and it where it is kept
kept_next : {A : Type 0} (p : A → Bool) (xs : List A) (i : ℕ) (x : A) (b : Bool) → i < length xs → x ≡ get_or xs i x → p x ≡ b → filter p (take (i + 1) xs) ≡ filter p (take i xs) ++ cond b (x ∷ []) []
kept_next p xs i x b within is kept =
    filter_more p xs i x within
    ∙ ap (λ y. filter p (take i xs) ++ cond (p y) (y ∷ []) []) (sym is)
    ∙ ap (λ c. filter p (take i xs) ++ cond c (x ∷ []) []) kept

-- the step of a loop that keeps an item
pub kept_more : {A : Type 0} (p : A → Bool) (xs : List A) (i : ℕ) (x : A) (old new : List A) → i < length xs → x ≡ get_or xs i x
    → old ≡ filter p (take i xs) → p x ≡ true → new ≡ old ++ x ∷ [] → new ≡ filter p (take (i + 1) xs)
kept_more p xs i x old new within is before kept step = step ∙ ap (λ ys. ys ++ x ∷ []) before ∙ sym (kept_next p xs i x true within is kept)

-- and of one that leaves an item out
pub left_out : {A : Type 0} (p : A → Bool) (xs : List A) (i : ℕ) (x : A) (old new : List A) → i < length xs → x ≡ get_or xs i x
    → old ≡ filter p (take i xs) → p x ≡ false → new ≡ old → new ≡ filter p (take (i + 1) xs)
left_out p xs i x old new within is before out step = step ∙ before ∙ sym (append-nil (filter p (take i xs))) ∙ sym (kept_next p xs i x false within is out)

-- what a loop made of the items up to its end was made of all of them
pub all_walked : {A B : Type 0} (made : List A → B) (xs ys : List A) (i : ℕ) (found : B) → xs ≡ ys → length xs ≤ i → found ≡ made (take i xs) → found ≡ made ys
all_walked made xs ys i found same all is = is ∙ ap made (take_all i xs all ∙ same)

-- the step of a loop that folds
pub folded_more : {A B : Type 0} (f : B → A → B) (first : B) (xs : List A) (i : ℕ) (x : A) (old new : B) → i < length xs → x ≡ get_or xs i x
    → old ≡ fold f first (take i xs) → new ≡ f old x → new ≡ fold f first (take (i + 1) xs)
folded_more f first xs i x old new within is before step = step ∙ ap (λ o. f o x) before ∙ ap (f (fold f first (take i xs))) is ∙ sym (fold_more f first xs i x within)

-- what holds of all holds of the item of a loop over them
pub all_here : {A : Type 0} (P : A → Type 0) (xs ys : List A) (i : ℕ) (x : A) → ys ≡ xs → i < length ys → x ≡ get_or ys i x → All P xs → P x
all_here P xs ys i x same within is all = subst P (sym is) (subst (λ zs. P (get_or zs i x)) (sym same) (all i x (subst (λ zs. i < length zs) same within)))
