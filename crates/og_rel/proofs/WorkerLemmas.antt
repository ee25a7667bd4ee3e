-- What several workers list on a day: the sets of what each makes, one after the other, have the set of all rows.
use Rattle.std.proofs.Common.{◌≡◌, ◌++◌, ℤ, List, [], ◌∷◌, Ordering, refl, sym, ap, ◌∙◌}
use Rattle.std.specs.Prelude.{Vec}
use Rattle.std.specs.declared.alloc.Global.{Global}
use Rattle.std.specs.List.{All, flat_map}
use Rattle.std.specs.List.Sorted.{IsPermutation, IsStrictlySortedBy}
use Rattle.std.proofs.lemmas.List.Concat.{flat_map-cons}
use Rattle.std.proofs.lemmas.List.Elements.{All-append, All-nil, All-same}
use Rattle.std.proofs.lemmas.Grind.{flat_map-append}
use Rattle.std.proofs.lemmas.List.Sorted.{Contains-permutation, IsPermutation-sym}
use denote.Ref.{Bor}
use Rattle.og_base.specs.Set.{IsExactOrder, set_of}
use Rattle.og_base.proofs.SetLemmas.{same_set, set_of-append, set_of-append_right, set_of-set_of}
use Rattle.og_par.specs.Phase.{MadeOfEach}
use Rattle.og_rel.specs.declared.pair.Pair.{Pair}
use Rattle.og_rel.specs.Pairs.{present_of_pairs}
use Rattle.og_rel.specs.Shares.{AreListed, rows_of, rows_of_shares}
use Rattle.og_rel.proofs.PairLemmas.{present_of_pairs-append}

module _ {F : Type 0} {cmp : F → F → Ordering} (o : IsExactOrder cmp) where
  -- of the same rows in another order
  pub set_of-permutation : (xs ys : List F) → IsPermutation xs ys → set_of cmp xs ≡ set_of cmp ys
  set_of-permutation xs ys moved =
      same_set o xs ys (λ z h. Contains-permutation xs ys z moved h) (λ z h. Contains-permutation ys xs z (IsPermutation-sym xs ys moved) h)

  -- of two lists, one after the other, of which each has the set of another
  pub set_of-both : (a b x y : List F) → set_of cmp a ≡ set_of cmp x → set_of cmp b ≡ set_of cmp y → set_of cmp (a ++ b) ≡ set_of cmp (x ++ y)
  set_of-both a b x y e f =
      sym (set_of-append o a b) ∙ ap (λ l. set_of cmp (l ++ b)) e ∙ set_of-append o x b
      ∙ sym (set_of-append_right o x b) ∙ ap (λ l. set_of cmp (x ++ l)) f ∙ set_of-append_right o x y

  -- of what is made of each item, where rows shows its rows, and those made of an item have the set of f of the item
  pub set_of-made : {T X : Type 0} (gives : T → List X → Type 0) (rows : List X → List F) (f : T → List F) → rows [] ≡ [] → ((a b : List X) → rows (a ++ b) ≡ rows a ++ rows b)
      → ((t : T) (a : List X) → gives t a → set_of cmp (rows a) ≡ set_of cmp (f t)) → (ts : List T) (made : List X) → MadeOfEach gives ts made → set_of cmp (rows made) ≡ set_of cmp (flat_map f ts)
  set_of-made gives rows f none along one [] made m = ap (λ l. set_of cmp (rows l)) m ∙ ap (set_of cmp) none
  set_of-made gives rows f none along one (t ∷ ts) made m =
      ap (λ l. set_of cmp (rows l)) m.4 ∙ ap (set_of cmp) (along m.0 m.1)
      ∙ set_of-both (rows m.0) (rows m.1) (f t) (flat_map f ts) (one t m.0 m.2) (set_of-made gives rows f none along one ts m.1 m.3)
      ∙ ap (set_of cmp) (sym (flat_map-cons f t ts))

module _ {R F : Type 0} (at : R → ℤ → F) (d : ℤ) where
  -- of blocks of pairs, one after the other
  pub present_of_pairs-blocks : (blocks : List (Bor (List (Pair R)))) → flat_map (λ b. present_of_pairs at b.now d) blocks ≡ present_of_pairs at (flat_map (λ b. b.now) blocks) d
  present_of_pairs-blocks [] = refl
  present_of_pairs-blocks (b ∷ blocks) =
      flat_map-cons (λ c. present_of_pairs at c.now d) b blocks
      ∙ ap (λ rows. present_of_pairs at b.now d ++ rows) (present_of_pairs-blocks blocks)
      ∙ sym (present_of_pairs-append at d b.now (flat_map (λ c. c.now) blocks))
      ∙ ap (λ pairs. present_of_pairs at pairs d) (sym (flat_map-cons (λ c. c.now) b blocks))

-- what holds of all that is made of each item holds of the whole
All-made : {T X : Type 0} (P : X → Type 0) (gives : T → List X → Type 0) → ((t : T) (a : List X) → gives t a → All P a) → (ts : List T) (made : List X) → MadeOfEach gives ts made → All P made
All-made P gives each [] made m = All-same P made [] m (All-nil P)
All-made P gives each (t ∷ ts) made m = All-same P made (m.0 ++ m.1) m.4 (All-append P m.0 m.1 (each t m.0 m.2) (All-made P gives each ts m.1 m.3))

-- parts dealt to shares, put together and then in order
pub set_of-shares : {F : Type 0} {cmp : F → F → Ordering} (o : IsExactOrder cmp)
    → (gives : Vec (Vec F Global) Global → List (Vec F Global) → Type 0) → ((share : Vec (Vec F Global) Global) (made : List (Vec F Global)) → gives share made → AreListed cmp (rows_of share.items) made)
    → (parts : List (Vec F Global)) (shares : List (Vec (Vec F Global) Global)) (lists : List (Vec F Global)) (rows : List F)
    → IsPermutation (rows_of parts) (rows_of_shares shares) → MadeOfEach gives shares lists
    → (All (λ list. IsStrictlySortedBy cmp list.items) lists → rows ≡ set_of cmp (rows_of lists))
    → rows ≡ set_of cmp (rows_of parts)
set_of-shares {F} {cmp} o gives each parts shares lists rows same put ordered =
    ordered (All-made (λ list. IsStrictlySortedBy cmp list.items) gives (λ share a h. (each share a h).1) shares lists put)
    ∙ set_of-made o gives rows_of (λ share. rows_of share.items) refl (flat_map-append (λ p. p.items))
    (λ share a h. ap (set_of cmp) (each share a h).0 ∙ set_of-set_of o (rows_of share.items)) shares lists put
    ∙ sym (set_of-permutation o (rows_of parts) (rows_of_shares shares) same)
