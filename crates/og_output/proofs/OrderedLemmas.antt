-- Rising lists, one after the other: the last row of all, and that they rise.
use Rattle.std.proofs.Common.{◌≡◌, ◌++◌, ◌+◌, ◌-◌, ◌<◌, ℕ, ℤ, suc, List, [], ◌∷◌, length, take, get_or, slice_get, option_copied, Ordering, Less, arith, ap, ap₂, refl, sym, subst, ◌∙◌}
use Rattle.std.specs.Cmp.{IsTotalOrder}
use Rattle.std.specs.List.{All, flat_map}
use Rattle.std.specs.List.Sorted.{IsPermutation, IsStrictlySortedBy}
use Rattle.std.specs.Option.{option_or}
use Rattle.std.specs.Prelude.{Option, None, Some, Vec}
use Rattle.std.specs.declared.alloc.Global.{Global}
use Rattle.std.proofs.lemmas.List.{append-nil, length-append, take_more}
use Rattle.std.proofs.lemmas.Grind.{flat_map-append}
use Rattle.std.proofs.lemmas.List.Concat.{flat_map-cons}
use Rattle.std.proofs.lemmas.List.Elements.{All-append, All-cons, All-nil, All-pop, All-same}
use Rattle.std.proofs.lemmas.List.Sorted.{IsPermutation-append_left, IsPermutation-append_right, IsPermutation-trans}
use Rattle.std.proofs.lemmas.Option.{none-some, get_or_from_slice_get, slice_get-get_or}
use denote.Ref.{Bor}
use Rattle.og_par.specs.Phase.{MadeOfEach}
use Rattle.og_base.specs.Set.{IsExactOrder, set_of}
use Rattle.og_base.proofs.SetLemmas.{IsStrictlySortedBy-set_of, set_of-set_of}
use Rattle.og_rel.specs.Shares.{AreListed, rows_of}
use Rattle.og_rel.specs.Pairs.{present_of_pairs}
use Rattle.og_rel.specs.declared.pair.Pair.{Pair}
use Rattle.og_rel.proofs.RisingLemmas.{rises_after}
use Rattle.og_rel.proofs.WorkerLemmas.{present_of_pairs-blocks, set_of-made}
use Rattle.og_output.specs.Ends.{end_of}

module _ {F : Type 0} where
  -- the rows of lists, and of more lists
  pub rows_of-append : (xs ys : List (Vec F Global)) → rows_of (xs ++ ys) ≡ rows_of xs ++ rows_of ys
  rows_of-append xs ys = flat_map-append (λ list. list.items) xs ys

  -- of the lists and one more
  pub rows_of-more : (lists : List (Vec F Global)) (list : Vec F Global) → rows_of (lists ++ list ∷ []) ≡ rows_of lists ++ list.items
  rows_of-more lists list = rows_of-append lists (list ∷ []) ∙ ap (λ rows. rows_of lists ++ rows) (flat_map-cons (λ l. l.items) list [] ∙ append-nil list.items)

  -- of the first lists and the next one
  pub rows_of-next : (lists : List (Vec F Global)) (i : ℕ) (list : Vec F Global) → i < length lists → list ≡ get_or lists i list → rows_of (take (i + 1) lists) ≡ rows_of (take i lists) ++ list.items
  rows_of-next lists i list within is = ap rows_of (take_more lists i list within ∙ ap (λ l. take i lists ++ l ∷ []) (sym is)) ∙ rows_of-more (take i lists) list

  -- parts of some lists and of one more have their rows, in some order
  pub parts_more : (before : List (Vec F Global)) (list : Vec F Global) (parts more new : List (Vec F Global)) → new ≡ parts ++ more → IsPermutation (rows_of before) (rows_of parts) → IsPermutation list.items (rows_of more)
      → IsPermutation (rows_of (before ++ list ∷ [])) (rows_of new)
  parts_more before list parts more new is same moved =
      subst (λ rows. IsPermutation rows (rows_of new)) (sym (rows_of-more before list))
      (subst (IsPermutation (rows_of before ++ list.items)) (sym (ap rows_of is ∙ rows_of-append parts more))
      (IsPermutation-trans (rows_of before ++ list.items) (rows_of parts ++ list.items) (rows_of parts ++ rows_of more)
      (IsPermutation-append_left list.items (rows_of before) (rows_of parts) same) (IsPermutation-append_right (rows_of parts) list.items (rows_of more) moved)))

module _ {F : Type 0} {cmp : F → F → Ordering} (total : IsTotalOrder cmp) where
  -- a rising list, alone in a list
  pub listed_alone : (rows : List F) (list : Vec F Global) → list.items ≡ set_of cmp rows → AreListed cmp rows (list ∷ [])
  listed_alone rows list is =
      let rises = subst (IsStrictlySortedBy cmp) (sym is) (IsStrictlySortedBy-set_of total rows) in
      (rows_of-more [] list ∙ is, All-cons (λ l. IsStrictlySortedBy cmp l.items) list [] rises (All-nil (λ l. IsStrictlySortedBy cmp l.items)))

  -- rows rise on with a list, where the last of the one comes before the first of the other
  pub rises_behind : (rows list : List F) (end start : F) → Some end ≡ end_of rows → Some start ≡ slice_get list 0 → cmp end start ≡ Less
      → IsStrictlySortedBy cmp rows → IsStrictlySortedBy cmp list → IsStrictlySortedBy cmp (rows ++ list)
  rises_behind rows list end start last first l rise rises =
      rises_after total rows list end start rise rises
      (ap₂ cmp (get_or_from_slice_get rows (length rows - 1) end end (sym last)) (get_or_from_slice_get list 0 start start (sym first)) ∙ l)

module _ {F : Type 0} where
  -- rows that have no last one are none
  pub no_end : (rows : List F) → None ≡ end_of rows → rows ≡ []
  no_end [] e = refl
  no_end (x ∷ xs) e = absurd (none-some (get_or (x ∷ xs) (length (x ∷ xs) - 1) x) (e ∙ slice_get-get_or (x ∷ xs) (length (x ∷ xs) - 1) x (omega arith)))

  -- a list that has no first row has none
  pub no_start : (list : List F) → None ≡ slice_get list 0 → list ≡ []
  no_start [] e = refl
  no_start (x ∷ xs) e = absurd (none-some x e)

  -- the last of all rows is that of the list behind
  behind : (xs : List F) (y : F) (ys : List F) → end_of (xs ++ y ∷ ys) ≡ end_of (y ∷ ys)
  behind [] y ys = refl
  behind (x ∷ xs) y ys =
      let place : length (x ∷ xs ++ y ∷ ys) - 1 ≡ suc (length (xs ++ y ∷ ys) - 1) = omega (arith, length-append xs (y ∷ ys)) in
      ap (slice_get (x ∷ xs ++ y ∷ ys)) place ∙ behind xs y ys

  -- or, where that has none, the last of those before
  pub end_of-append : (xs ys : List F) → end_of (xs ++ ys) ≡ option_or (end_of ys) (end_of xs)
  end_of-append xs [] = ap end_of (append-nil xs)
  end_of-append xs (y ∷ ys) =
      let is = slice_get-get_or (y ∷ ys) (length (y ∷ ys) - 1) y (omega arith) in
      behind xs y ys ∙ is ∙ ap (λ o. option_or o (end_of xs)) (sym is)

-- what is lent of one or of the other
pub copied_or : {F : Type 0} (a b : Option (Bor F)) → option_copied (option_or a b) ≡ option_or (option_copied a) (option_copied b)
copied_or None b = refl
copied_or (Some x) b = refl

module _ {F : Type 0} (cmp : F → F → Ordering) where
  -- these lists are one rising list, where each rises, and this is its last row
  pub record AreInOrder (lists : List (Vec F Global)) (end : Option F) : Type 0 where
    pub rises : All (λ list. IsStrictlySortedBy cmp list.items) lists → IsStrictlySortedBy cmp (rows_of lists)
    pub last : end ≡ end_of (rows_of lists)

  -- and so are they with one more
  pub one_more_in_order : (lists : List (Vec F Global)) (i : ℕ) (list : Vec F Global) (end new : Option F) → i < length lists → list ≡ get_or lists i list
      → ((rows : List F) → end ≡ end_of rows → IsStrictlySortedBy cmp rows → IsStrictlySortedBy cmp list.items → IsStrictlySortedBy cmp (rows ++ list.items))
      → new ≡ option_or (end_of list.items) end → AreInOrder (take i lists) end → AreInOrder (take (i + 1) lists) new
  one_more_in_order lists i list end new place is behind_end last h =
      let more : take (i + 1) lists ≡ take i lists ++ list ∷ [] = take_more lists i list place ∙ ap (λ l. take i lists ++ l ∷ []) (sym is) in
      let rows = rows_of-next lists i list place is in record {
        rises = λ rise.
            let both = All-pop (λ l. IsStrictlySortedBy cmp l.items) (take (i + 1) lists) (take i lists) (Some list) more rise in
            subst (IsStrictlySortedBy cmp) (sym rows) (behind_end (rows_of (take i lists)) h.last (h.rises both.0) both.1);
        last = last ∙ ap (option_or (end_of list.items)) h.last ∙ sym (end_of-append (rows_of (take i lists)) list.items) ∙ ap end_of (sym rows);
      }

-- what holds of all that is made of each item holds of the whole
All-made : {T X : Type 0} (P : X → Type 0) (gives : T → List X → Type 0) → ((t : T) (a : List X) → gives t a → All P a) → (ts : List T) (made : List X) → MadeOfEach gives ts made → All P made
All-made P gives each [] made m = All-same P made [] m (All-nil P)
All-made P gives each (t ∷ ts) made m = All-same P made (m.0 ++ m.1) m.4 (All-append P m.0 m.1 (each t m.0 m.2) (All-made P gives each ts m.1 m.3))

module _ {R F : Type 0} {cmp : F → F → Ordering} (o : IsExactOrder cmp) (at : R → ℤ → F) (d : ℤ) where
  -- the lists that are made of blocks of pairs rise, and have the rows of the day of all
  pub listed_lists : (blocks : List (Bor (List (Pair R)))) (lists : List (Vec F Global)) → MadeOfEach (λ block made. AreListed cmp (present_of_pairs at block.now d) made) blocks lists
      → (set_of cmp (rows_of lists) ≡ set_of cmp (present_of_pairs at (flat_map (λ b. b.now) blocks) d)) × All (λ list. IsStrictlySortedBy cmp list.items) lists
  listed_lists blocks lists made = (
    set_of-made o (λ block a. AreListed cmp (present_of_pairs at block.now d) a) rows_of (λ b. present_of_pairs at b.now d) refl rows_of-append
        (λ b a h. ap (set_of cmp) h.0 ∙ set_of-set_of o (present_of_pairs at b.now d)) blocks lists made
        ∙ ap (set_of cmp) (present_of_pairs-blocks at d blocks),
    All-made (λ list. IsStrictlySortedBy cmp list.items) (λ block a. AreListed cmp (present_of_pairs at block.now d) a) (λ b a h. h.1) blocks lists made,
  )
