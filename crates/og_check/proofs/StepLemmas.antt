-- The loops over checks that stand one after the other.
use Rattle.std.proofs.Common.{◌≡◌, ◌++◌, ◌+◌, ◌<◌, ◌≤◌, ℕ, List, [], ◌∷◌, Some, Ok, Err, map, length, drop, get_or, slice_get, refl, ap, sym, ◌∙◌, append_assoc, append-nil, add-one, arith}
use Rattle.std.proofs.Math.Seq.{drop-cons}
use Rattle.std.proofs.lemmas.List.{drop_all, length-map}
use Rattle.og_value.specs.declared.kind.Kind.{Kind}
use Rattle.og_check.specs.declared.refusal.CheckRefusal.{CheckRefusal}
use Rattle.og_check.specs.Fronts.{with_front, with_fronts, parted}
use Rattle.og_check.specs.Steps.{Checked, ◌>>=◌, ◌>>◌, pure, in_order, in_turn, same_kind, same_kinds, same_count, agree}
use Rattle.og_check.proofs.Parts.{left, left_got}

-- two kinds and those after them
kinds_left : (xs ys : List Kind) (i : ℕ) (x y : Kind) → i < length xs → length xs ≡ length ys
    → same_kinds (drop i xs) (drop i ys) ≡ (do same_kind (get_or xs i x) (get_or ys i y); same_kinds (drop (i + 1) xs) (drop (i + 1) ys))
kinds_left xs ys i x y h k =
    (λ j. same_kinds (drop-cons xs i x h j) (drop-cons ys i y (omega (arith, h, k)) j))
    ∙ ap (λ n. same_kind (get_or xs i x) (get_or ys i y) >> same_kinds (drop n xs) (drop n ys)) (sym (add-one i))

-- where the two are one kind, those after them are left
pub kinds_next : (xs ys : List Kind) (i : ℕ) (x y : Kind) → i < length xs → length xs ≡ length ys → same_kind (get_or xs i x) (get_or ys i y) ≡ Ok tt
    → same_kinds (drop (i + 1) xs) (drop (i + 1) ys) ≡ same_kinds (drop i xs) (drop i ys)
kinds_next xs ys i x y h k e = sym (kinds_left xs ys i x y h k ∙ ap (λ p. p >> same_kinds (drop (i + 1) xs) (drop (i + 1) ys)) e)

-- where they differ, the rest is not looked at
pub kinds_stop : (xs ys : List Kind) (i : ℕ) (x y : Kind) (fault : CheckRefusal) → i < length xs → length xs ≡ length ys → same_kind (get_or xs i x) (get_or ys i y) ≡ Err fault
    → same_kinds (drop i xs) (drop i ys) ≡ Err fault
kinds_stop xs ys i x y fault h k e = kinds_left xs ys i x y h k ∙ ap (λ p. p >> same_kinds (drop (i + 1) xs) (drop (i + 1) ys)) e

-- no kinds are left at the end
pub kinds_done : (xs ys : List Kind) (i : ℕ) → length xs ≤ i → same_kinds (drop i xs) ys ≡ Ok tt
kinds_done xs ys i h = ap (λ zs. same_kinds zs ys) (drop_all i xs h)

-- two lists of what has kinds, one beside the other
module _ {A B : Type 0} (f : A → Kind) (g : B → Kind) where
  -- as many as are wanted, and then their kinds
  counted : (xs : List A) (ys : List B) (m n : ℕ) → m ≡ length xs → n ≡ length ys → agree (map f xs) (map g ys) ≡ (do same_count m n; same_kinds (map f xs) (map g ys))
  counted xs ys m n d e = (λ i. same_count ((length-map xs f ∙ sym d) i) ((length-map ys g ∙ sym e) i) >> same_kinds (map f xs) (map g ys))

  -- where the counts are the same, the kinds are left
  pub count_next : (xs : List A) (ys : List B) (m n : ℕ) → m ≡ length xs → n ≡ length ys → same_count m n ≡ Ok tt → agree (map f xs) (map g ys) ≡ same_kinds (map f xs) (map g ys)
  count_next xs ys m n d e h = counted xs ys m n d e ∙ ap (λ p. p >> same_kinds (map f xs) (map g ys)) h

  -- where the counts differ, no kind is looked at
  pub count_stop : (xs : List A) (ys : List B) (m n : ℕ) (fault : CheckRefusal) → m ≡ length xs → n ≡ length ys → same_count m n ≡ Err fault → agree (map f xs) (map g ys) ≡ Err fault
  count_stop xs ys m n fault d e h = counted xs ys m n d e ∙ ap (λ p. p >> same_kinds (map f xs) (map g ys)) h

  -- two kinds and those after them
  pair_left : (xs : List A) (ys : List B) (i : ℕ) (x : A) (y : B) → slice_get xs i ≡ Some x → slice_get ys i ≡ Some y
      → same_kinds (map f (drop i xs)) (map g (drop i ys)) ≡ (do same_kind (f x) (g y); same_kinds (map f (drop (i + 1) xs)) (map g (drop (i + 1) ys)))
  pair_left xs ys i x y h k = (λ j. same_kinds (map f (left_got xs i x h j)) (map g (left_got ys i y k j)))

  -- where the two are one kind, those after them are left
  pub pair_kinds_next : (xs : List A) (ys : List B) (i : ℕ) (x : A) (y : B) → slice_get xs i ≡ Some x → slice_get ys i ≡ Some y → same_kind (f x) (g y) ≡ Ok tt
      → same_kinds (map f (drop (i + 1) xs)) (map g (drop (i + 1) ys)) ≡ same_kinds (map f (drop i xs)) (map g (drop i ys))
  pair_kinds_next xs ys i x y h k e = sym (pair_left xs ys i x y h k ∙ ap (λ p. p >> same_kinds (map f (drop (i + 1) xs)) (map g (drop (i + 1) ys))) e)

  -- where they differ, the rest is not looked at
  pub pair_kinds_stop : (xs : List A) (ys : List B) (i : ℕ) (x : A) (y : B) (fault : CheckRefusal) → slice_get xs i ≡ Some x → slice_get ys i ≡ Some y → same_kind (f x) (g y) ≡ Err fault
      → same_kinds (map f (drop i xs)) (map g (drop i ys)) ≡ Err fault
  pair_kinds_stop xs ys i x y fault h k e = pair_left xs ys i x y h k ∙ ap (λ p. p >> same_kinds (map f (drop (i + 1) xs)) (map g (drop (i + 1) ys))) e

  -- no kinds are left at the end
  pub pair_kinds_done : (xs : List A) (ys : List B) (i : ℕ) → length xs ≤ i → same_kinds (map f (drop i xs)) (map g ys) ≡ Ok tt
  pair_kinds_done xs ys i h = ap (λ zs. same_kinds (map f zs) (map g ys)) (drop_all i xs h)

-- nothing in front
pub front-nil : {A : Type 0} (p : Checked (List A)) → with_front [] p ≡ p
front-nil (Ok xs) = refl
front-nil (Err e) = refl

-- a value in front, or parts the last of those before
pub front-more : {A : Type 0} (xs : List A) (y : A) (p : Checked (List A)) → with_front xs (do ys ← p; pure (y ∷ ys)) ≡ with_front (xs ++ y ∷ []) p
front-more xs y (Ok ys) = ap Ok (sym (append_assoc xs (y ∷ []) ys))
front-more xs y (Err e) = refl

-- the next of two lists in front, or parts the last of those before
pub fronts-more : {A B : Type 0} (xs : List A) (ys : List B) (z : A × B) (p : Checked (List (A × B))) → with_fronts xs ys (do zs ← p; pure (z ∷ zs)) ≡ with_fronts (xs ++ z.0 ∷ []) (ys ++ z.1 ∷ []) p
fronts-more xs ys z (Ok zs) = (λ i. Ok (sym (append_assoc xs (z.0 ∷ []) (map (λ x. x.0) zs)) i, sym (append_assoc ys (z.1 ∷ []) (map (λ x. x.1) zs)) i))
fronts-more xs ys z (Err e) = refl

-- what comes of pairs comes of their two lists
pub bind-parted : {A B C : Type 0} (p : Checked (List (A × B))) (f : List A → List B → Checked C) → (do xs ← p; f (map (λ x. x.0) xs) (map (λ x. x.1) xs)) ≡ (do xs ← parted p; f xs.0 xs.1)
bind-parted (Ok xs) f = refl
bind-parted (Err e) f = refl

-- nothing is left
pub fronts-done : {A B : Type 0} (xs : List A) (ys : List B) → with_fronts xs ys (Ok []) ≡ Ok (xs, ys)
fronts-done xs ys = (λ i. Ok (append-nil xs i, append-nil ys i))

-- a list whose parts are checked one after the other
module _ {A B : Type 0} (f : A → Checked B) where
  -- the parts from a place on are the one there, and then those after it
  each_left : (parts : List A) (i : ℕ) (x : A) → i < length parts → x ≡ get_or parts i x → in_order (map f (drop i parts)) ≡ (do y ← f x; ys ← in_order (map f (drop (i + 1) parts)); pure (y ∷ ys))
  each_left parts i x h e = ap (λ zs. in_order (map f zs)) (left parts i x h e)

  -- the next value in front
  pub each_next : (xs : List B) (parts : List A) (i : ℕ) (x : A) (y : B) → i < length parts → x ≡ get_or parts i x → f x ≡ Ok y
      → with_front (xs ++ y ∷ []) (in_order (map f (drop (i + 1) parts))) ≡ with_front xs (in_order (map f (drop i parts)))
  each_next xs parts i x y h e g =
      sym (front-more xs y (in_order (map f (drop (i + 1) parts)))) ∙ ap (λ p. with_front xs (do y ← p; ys ← in_order (map f (drop (i + 1) parts)); pure (y ∷ ys))) (sym g) ∙ ap (with_front xs) (sym (each_left parts i x h e))

  -- a fault, and the rest is not looked at
  pub each_stop : (xs : List B) (parts : List A) (i : ℕ) (x : A) (fault : CheckRefusal) → i < length parts → x ≡ get_or parts i x → f x ≡ Err fault → with_front xs (in_order (map f (drop i parts))) ≡ Err fault
  each_stop xs parts i x fault h e g = ap (with_front xs) (each_left parts i x h e ∙ ap (λ p. do y ← p; ys ← in_order (map f (drop (i + 1) parts)); pure (y ∷ ys)) g)

  -- nothing is left at the end
  pub each_done : (xs : List B) (parts : List A) (i : ℕ) → length parts ≤ i → with_front xs (in_order (map f (drop i parts))) ≡ Ok xs
  each_done xs parts i h = ap (λ zs. with_front xs (in_order (map f zs))) (drop_all i parts h) ∙ ap Ok (append-nil xs)

-- a list whose parts are checked to pairs one after the other
module _ {A B C : Type 0} (f : A → Checked (B × C)) where
  -- the next pair in front
  pub pair_next : (xs : List B) (ys : List C) (parts : List A) (i : ℕ) (x : A) (y : B × C) → i < length parts → x ≡ get_or parts i x → f x ≡ Ok y
      → with_fronts (xs ++ y.0 ∷ []) (ys ++ y.1 ∷ []) (in_order (map f (drop (i + 1) parts))) ≡ with_fronts xs ys (in_order (map f (drop i parts)))
  pair_next xs ys parts i x y h e g =
      sym (fronts-more xs ys y (in_order (map f (drop (i + 1) parts)))) ∙ ap (λ p. with_fronts xs ys (do y ← p; zs ← in_order (map f (drop (i + 1) parts)); pure (y ∷ zs))) (sym g) ∙ ap (with_fronts xs ys) (sym (each_left f parts i x h e))

  -- a fault, and the rest is not looked at
  pub pair_stop : (xs : List B) (ys : List C) (parts : List A) (i : ℕ) (x : A) (fault : CheckRefusal) → i < length parts → x ≡ get_or parts i x → f x ≡ Err fault → with_fronts xs ys (in_order (map f (drop i parts))) ≡ Err fault
  pair_stop xs ys parts i x fault h e g = ap (with_fronts xs ys) (each_left f parts i x h e ∙ ap (λ p. do y ← p; zs ← in_order (map f (drop (i + 1) parts)); pure (y ∷ zs)) g)

  -- nothing is left at the end
  pub pair_done : (xs : List B) (ys : List C) (parts : List A) (i : ℕ) → length parts ≤ i → with_fronts xs ys (in_order (map f (drop i parts))) ≡ Ok (xs, ys)
  pair_done xs ys parts i h = ap (λ zs. with_fronts xs ys (in_order (map f zs))) (drop_all i parts h) ∙ fronts-done xs ys

-- a state to which each part of a list is added in turn
module _ {S A : Type 0} (step : S → A → Checked S) where
  -- with the part at a place, those after it are left
  pub turn_next : (before : S) (parts : List A) (i : ℕ) (x : A) (after : S) → i < length parts → x ≡ get_or parts i x → step before x ≡ Ok after
      → in_turn step after (drop (i + 1) parts) ≡ in_turn step before (drop i parts)
  turn_next before parts i x after h e g = ap (λ p. do s ← p; in_turn step s (drop (i + 1) parts)) (sym g) ∙ ap (in_turn step before) (sym (left parts i x h e))

  -- a fault, and the rest is not looked at
  pub turn_stop : (before : S) (parts : List A) (i : ℕ) (x : A) (fault : CheckRefusal) → i < length parts → x ≡ get_or parts i x → step before x ≡ Err fault
      → in_turn step before (drop i parts) ≡ Err fault
  turn_stop before parts i x fault h e g = ap (in_turn step before) (left parts i x h e) ∙ ap (λ p. do s ← p; in_turn step s (drop (i + 1) parts)) g

  -- nothing is left at the end
  pub turn_done : (before : S) (parts : List A) (i : ℕ) → length parts ≤ i → in_turn step before (drop i parts) ≡ Ok before
  turn_done before parts i h = ap (in_turn step before) (drop_all i parts h)
