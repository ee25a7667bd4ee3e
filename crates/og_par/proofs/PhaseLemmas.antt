-- What is made of lists of items: of one after the other, of one more item, that it is one list, and what a function of lists shows of it.
use Rattle.std.proofs.Common.{◌≡◌, ◌++◌, ◌+◌, ◌<◌, ℕ, List, [], ◌∷◌, length, get_or, take, refl, sym, ap, ap₂, ◌∙◌, subst}
use Rattle.std.proofs.lemmas.List.{append_assoc, append-nil, take_more}
use Rattle.std.specs.List.{flat_map}
use Rattle.std.proofs.lemmas.List.Concat.{flat_map-cons}
use Rattle.og_par.specs.Phase.{MadeOfEach, AllowsOne}

module _ {T X : Type 0} (gives : T → List X → Type 0) where
  -- of two lists of items, one after the other
  pub MadeOfEach-append : (xs ys : List T) (a b : List X) → MadeOfEach gives xs a → MadeOfEach gives ys b → MadeOfEach gives (xs ++ ys) (a ++ b)
  MadeOfEach-append [] ys a b h k = subst (λ l. MadeOfEach gives ys (l ++ b)) (sym h) k
  MadeOfEach-append (x ∷ xs) ys a b h k =
      (h.0, h.1 ++ b, h.2, MadeOfEach-append xs ys h.1 b h.3 k, ap (λ l. l ++ b) h.4 ∙ append_assoc h.0 h.1 b)

  -- of a list of items that was cut, where what is made of its parts is joined
  pub MadeOfEach-joined : (xs ys all : List T) (a b joined : List X) → all ≡ xs ++ ys → joined ≡ a ++ b → MadeOfEach gives xs a → MadeOfEach gives ys b → MadeOfEach gives all joined
  MadeOfEach-joined xs ys all a b joined cut e h k =
      subst (MadeOfEach gives all) (sym e) (subst (λ l. MadeOfEach gives l (a ++ b)) (sym cut) (MadeOfEach-append xs ys a b h k))

  -- of one item
  pub MadeOfEach-one : (x : T) (a : List X) → gives x a → MadeOfEach gives (x ∷ []) a
  MadeOfEach-one x a h = (a, [], h, refl, sym (append-nil a))

  -- of the items up to one more
  pub MadeOfEach-more : (xs : List T) (i : ℕ) (x : T) (made before after : List X) → i < length xs → x ≡ get_or xs i x → after ≡ before ++ made → gives x made → MadeOfEach gives (take i xs) before → MadeOfEach gives (take (i + 1) xs) after
  MadeOfEach-more xs i x made before after l is e h k =
      let more = take_more xs i x l ∙ ap (λ y. take i xs ++ y ∷ []) (sym is) in
      let all = MadeOfEach-append (take i xs) (x ∷ []) before made k (MadeOfEach-one x made h) in
      subst (λ ys. MadeOfEach gives ys after) (sym more) (subst (MadeOfEach gives (take i xs ++ x ∷ [])) (sym e) all)

  -- it is one list, where one list is allowed for each item
  pub one_list : AllowsOne gives → (xs : List T) (a b : List X) → MadeOfEach gives xs a → MadeOfEach gives xs b → a ≡ b
  one_list one [] a b h k = h ∙ sym k
  one_list one (x ∷ xs) a b h k =
      h.4 ∙ ap₂ (λ u v. u ++ v) (one x h.0 k.0 h.2 k.2) (one_list one xs h.1 k.1 h.3 k.3) ∙ sym k.4

  -- what h shows of it, where h of lists one after the other is h of each, is f of each item, one after the other
  pub MadeOfEach-shown : {Y : Type 0} (h : List X → List Y) (f : T → List Y) → h [] ≡ [] → ((a b : List X) → h (a ++ b) ≡ h a ++ h b)
      → ((x : T) (a : List X) → gives x a → h a ≡ f x) → (xs : List T) (made : List X) → MadeOfEach gives xs made → h made ≡ flat_map f xs
  MadeOfEach-shown h f none along one [] made m = ap h m ∙ none
  MadeOfEach-shown h f none along one (x ∷ xs) made m =
      ap h m.4 ∙ along m.0 m.1 ∙ ap₂ (λ u v. u ++ v) (one x m.0 m.2) (MadeOfEach-shown h f none along one xs m.1 m.3) ∙ sym (flat_map-cons f x xs)
