-- Rows that each become others by itself: of pairs, of blocks of pairs, and of a relation at a day.
use Rattle.std.proofs.Common.{◌≡◌, ◌++◌, ◌+◌, ◌*◌, ◌<◌, ◌≤◌, ℕ, ℤ, false, cond, List, [], ◌∷◌, length, get_or, map, filter, take, Ordering, refl, Bool, sym, subst₂, ap, ap₂, ◌∙◌, arith}
use Rattle.std.specs.List.{flat_map}
use Rattle.std.proofs.lemmas.List.{append-nil, length-append, map-append, take_more}
use Rattle.std.proofs.lemmas.List.Concat.{flat_map-cons}
use Rattle.std.proofs.lemmas.List.Elements.{filter-append}
use Rattle.og_base.specs.Ranges.{Range}
use Rattle.og_base.specs.Set.{IsExactOrder, set_of}
use Rattle.og_base.proofs.SetLemmas.{filter-set_of}
use denote.Ref.{Bor}
use Rattle.og_par.specs.Phase.{MadeOfEach}
use Rattle.og_rel.specs.declared.pair.Pair.{Pair}
use Rattle.og_rel.specs.Pairs.{present_of_pairs}
use Rattle.og_rel.specs.Relations.{passing, present, relation_at}
use Rattle.og_rel.proofs.PairLemmas.{present_of_pairs-append, present_of_pairs-more}
use Rattle.og_rel.proofs.PresentLemmas.{present-append}
use Rattle.og_ops.specs.Each.{Becomes, IsMadeOf}
use Rattle.og_ops.proofs.RowLemmas.{set_of-map}

-- the rows that pass of the first pairs and one more
passing_parts : {R : Type 0} (passes : R → Bool) (pairs : List (Pair R)) (i : ℕ) (p : Pair R) → i < length pairs → p ≡ get_or pairs i p
    → passing passes (map (λ q. (q.row, q.days)) (take (i + 1) pairs)) ≡ passing passes (map (λ q. (q.row, q.days)) (take i pairs)) ++ passing passes ((p.row, p.days) ∷ [])
passing_parts passes pairs i p l e =
    ap (λ q. passing passes (map (λ r. (r.row, r.days)) q)) (take_more pairs i p l ∙ ap (λ q. take i pairs ++ q ∷ []) (sym e))
    ∙ ap (passing passes) (map-append (λ q. (q.row, q.days)) (take i pairs) (p ∷ []))
    ∙ filter-append (λ q. passes q.0) (map (λ q. (q.row, q.days)) (take i pairs)) ((p.row, p.days) ∷ [])

module _ {F : Type 0} (f : List F → List F) (along : (xs ys : List F) → f (xs ++ ys) ≡ f xs ++ f ys) where
  -- no row becomes none
  pub nothing_becomes : f [] ≡ []
  nothing_becomes = none (f []) (along [] [])
    where
      none : (xs : List F) → xs ≡ xs ++ xs → xs ≡ []
      none [] e = refl
      none (x ∷ xs) e = absurd (omega (arith, ap length e, length-append (x ∷ xs) (x ∷ xs)))

  -- the rows of a day of the first pairs and one more
  pub become_more : {R : Type 0} (at : R → ℤ → F) (pairs : List (Pair R)) (i : ℕ) (p : Pair R) (old new : List (R × List Range)) (d : ℤ) → i < length pairs → p ≡ get_or pairs i p
      → present at old d ≡ f (present_of_pairs at (take i pairs) d) → present at new d ≡ present at old d ++ f (present at ((p.row, p.days) ∷ []) d)
      → present at new d ≡ f (present_of_pairs at (take (i + 1) pairs) d)
  become_more at pairs i p old new d l e before step =
      step ∙ ap (λ rows. rows ++ f (present_of_pairs at (p ∷ []) d)) before ∙ sym (along (present_of_pairs at (take i pairs) d) (present_of_pairs at (p ∷ []) d))
      ∙ ap f (sym (present_of_pairs-more at d pairs i p l e))

  -- those of them that pass a test
  pub passing_more : {R : Type 0} (at : R → ℤ → F) (passes : R → Bool) (pairs : List (Pair R)) (i : ℕ) (p : Pair R) (old new : List (R × List Range)) (d : ℤ) → i < length pairs → p ≡ get_or pairs i p
      → present at old d ≡ f (present at (passing passes (map (λ q. (q.row, q.days)) (take i pairs))) d)
      → present at new d ≡ present at old d ++ f (present at (passing passes ((p.row, p.days) ∷ [])) d)
      → present at new d ≡ f (present at (passing passes (map (λ q. (q.row, q.days)) (take (i + 1) pairs))) d)
  passing_more at passes pairs i p old new d l e before step =
      let first = passing passes (map (λ q. (q.row, q.days)) (take i pairs)) in
      let one = passing passes ((p.row, p.days) ∷ []) in
      step ∙ ap (λ rows. rows ++ f (present at one d)) before ∙ sym (along (present at first d) (present at one d))
      ∙ ap f (sym (ap (λ rel. present at rel d) (passing_parts passes pairs i p l e) ∙ present-append at first one d))

  -- a row that does not pass adds nothing
  pub unpassed : {R : Type 0} (at : R → ℤ → F) (passes : R → Bool) (row : R) (days : List Range) (rows : List F) (d : ℤ) → passes row ≡ false → rows ≡ rows ++ f (present at (passing passes ((row, days) ∷ [])) d)
  unpassed at passes row days rows d e =
      sym (ap (λ more. rows ++ f (present at more d)) none ∙ ap (λ more. rows ++ more) nothing_becomes ∙ append-nil rows)
    where
      none : passing passes ((row, days) ∷ []) ≡ []
      none = ap (λ b. cond b ((row, days) ∷ []) []) e

-- one row more for each pair that passes
pub passing_size : {R : Type 0} (passes : R → Bool) (pairs : List (Pair R)) (i : ℕ) (p : Pair R) (a b n : ℕ) → i < length pairs → p ≡ get_or pairs i p
    → a ≤ n * length (passing passes (map (λ q. (q.row, q.days)) (take i pairs))) → b ≤ a + n * length (passing passes ((p.row, p.days) ∷ []))
    → b ≤ n * length (passing passes (map (λ q. (q.row, q.days)) (take (i + 1) pairs)))
passing_size passes pairs i p a b n l e h k =
    both (length (passing passes (map (λ q. (q.row, q.days)) (take i pairs)))) (length (passing passes ((p.row, p.days) ∷ []))) _
    (ap length (passing_parts passes pairs i p l e) ∙ length-append (passing passes (map (λ q. (q.row, q.days)) (take i pairs))) (passing passes ((p.row, p.days) ∷ []))) h k
  where
    both : (x y all : ℕ) → all ≡ x + y → a ≤ n * x → b ≤ a + n * y → b ≤ n * all
    both x y all e h k = grind (arith, e, h, k)

-- one row more for each pair
pub most_more : (a b i n : ℕ) → a ≤ n * i → b ≤ a + n → b ≤ n * (i + 1)
most_more a b i n h k = grind (arith, h, k)

module _ {R F : Type 0} (at : R → ℤ → F) (becomes : ℤ → List F → List F) (along : (d : ℤ) (xs ys : List F) → becomes d (xs ++ ys) ≡ becomes d xs ++ becomes d ys) (most : ℕ) where
  -- what two lists of pairs become, one after the other
  become_both : (a b : List (Pair R)) (made more : List (R × List Range)) → Becomes at becomes most a made → Becomes at becomes most b more → Becomes at becomes most (a ++ b) (made ++ more)
  become_both a b made more h k = (
    λ d r.
        present-append at made more d ∙ ap₂ (λ xs ys. xs ++ ys) (h.0 d r) (k.0 d r) ∙ sym (along d (present_of_pairs at a d) (present_of_pairs at b d))
        ∙ ap (becomes d) (sym (present_of_pairs-append at d a b)),
    both (length made) (length more) (length (made ++ more)) (length a) (length b) (length (a ++ b)) (length-append made more) (length-append a b) h.1 k.1,
  )
    where
      both : (x y all i j n : ℕ) → all ≡ x + y → n ≡ i + j → x ≤ most * i → y ≤ most * j → all ≤ most * n
      both x y all i j n e f h k = grind (arith, e, f, h, k)

  -- what is made of blocks of pairs is what all the pairs become
  pub become_blocks : (blocks : List (Bor (List (Pair R)))) (made : List (List (R × List Range))) → MadeOfEach (λ block made. IsMadeOf at becomes most block.now made) blocks made
      → Becomes at becomes most (flat_map (λ b. b.now) blocks) (flat_map (λ part. part) made)
  become_blocks [] made m = (
    λ d r. ap (λ parts. present at (flat_map (λ part. part) parts) d) m ∙ sym (nothing_becomes (becomes d) (along d)),
    omega (arith, ap (λ parts. length (flat_map (λ part. part) parts)) m),
  )
  become_blocks (b ∷ blocks) made m =
      let rel = m.2.0 in
      let rest = flat_map (λ part. part) m.1 in
      let pairs = flat_map (λ c. c.now) blocks in
      let all : flat_map (λ part. part) made ≡ rel ++ rest = ap (flat_map (λ part. part)) (m.4 ∙ ap (λ parts. parts ++ m.1) m.2.2) ∙ flat_map-cons (λ part. part) rel m.1 in
      let spans : flat_map (λ c. c.now) (b ∷ blocks) ≡ b.now ++ pairs = flat_map-cons (λ c. c.now) b blocks in
      subst₂ (λ ps rows. Becomes at becomes most ps rows) (sym spans) (sym all) (become_both b.now pairs rel rest m.2.1 (become_blocks blocks m.1 m.3))

module _ {R F : Type 0} {cmp : F → F → Ordering} (o : IsExactOrder cmp) (at : R → ℤ → F) where
  -- a relation of the rows that pass, at a day
  pub passing_at : (p : F → Bool) (rel made : List (R × List Range)) (d : ℤ) → present at made d ≡ filter p (present at rel d) → relation_at cmp at made d ≡ filter p (relation_at cmp at rel d)
  passing_at p rel made d e = ap (set_of cmp) e ∙ sym (filter-set_of o p (present at rel d))

  -- a relation of images, at a day
  pub images_at : (f : F → F) (rel made : List (R × List Range)) (d : ℤ) → present at made d ≡ map f (present at rel d) → relation_at cmp at made d ≡ set_of cmp (map f (relation_at cmp at rel d))
  images_at f rel made d e = ap (set_of cmp) e ∙ set_of-map o f (present at rel d)
