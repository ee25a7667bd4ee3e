-- The walk over all combinations: its places, step by step, and that it leaves none out.
use Rattle.std.proofs.Common.{◌≡◌, ◌++◌, ◌+◌, ◌<◌, ◌≤◌, ℕ, zero, suc, min, List, [], ◌∷◌, Some, None, length, get_or, take, drop, set, if◌then◌else◌, refl, sym, ap, ap₂, subst, ◌∙◌, arith}
use Rattle.std.proofs.Math.Seq.{drop-cons}
use Rattle.std.proofs.lemmas.Bool.{lt-ltb, le-ltb}
use Rattle.og_query.specs.Walk.{zeros, stepped, next_places}

-- a place in front of others is the place of the list
get_behind : (xs zs : List ℕ) (j place : ℕ) → j < length xs → place ≡ get_or (take (suc j) xs ++ zs) j place → place ≡ get_or xs j 0
get_behind [] zs j place l e = absurd (omega arith)
get_behind (x ∷ xs) zs zero place l e = e
get_behind (x ∷ xs) zs (suc j) place l e = get_behind xs zs j place (omega arith) e

-- a place in front of others is set
set_behind : (xs zs : List ℕ) (j x : ℕ) → j < length xs → set (take (suc j) xs ++ zs) j x ≡ take j xs ++ x ∷ zs
set_behind [] zs j x l = absurd (omega arith)
set_behind (y ∷ ys) zs zero x l = refl
set_behind (y ∷ ys) zs (suc j) x l = ap (λ zs. y ∷ zs) (set_behind ys zs j x (omega arith))

-- where the places from one on go on, so do all, and those before it stay
lifted : (sizes start : List ℕ) (j : ℕ) (places : List ℕ) → j ≤ length sizes → length sizes ≡ length start
    → next_places (drop j sizes) (drop j start) ≡ Some places → next_places sizes start ≡ Some (take j start ++ places)
lifted sizes start zero places l same e = e
lifted [] start (suc j) places l same e = absurd (omega arith)
lifted (size ∷ sizes) [] (suc j) places l same e = absurd (omega (arith, same))
lifted (size ∷ sizes) (place ∷ start) (suc j) places l same e = ap (stepped size sizes place) (lifted sizes start j places (omega arith) (omega (arith, same)) e)

module _ (sizes start now : List ℕ) (j m : ℕ) (e : m ≡ suc j) (l : m ≤ length sizes) (same : length sizes ≡ length start)
    (wrapped : now ≡ take m start ++ zeros (drop m sizes)) (ended : next_places (drop m sizes) (drop m start) ≡ None) where
  -- the place at hand is within both lists
  within : j < length start
  within = omega (arith, e, l, same)

  -- it is still as it was
  as_it_was : (place : ℕ) → place ≡ get_or now j place → place ≡ get_or start j 0
  as_it_was place is =
      get_behind start (zeros (drop (suc j) sizes)) j place within (is ∙ ap (λ ps. get_or ps j place) (subst (λ m. now ≡ take m start ++ zeros (drop m sizes)) e wrapped))

  -- the places from it on go on where it can
  next_here : next_places (drop j sizes) (drop j start) ≡ stepped (get_or sizes j 0) (drop (suc j) sizes) (get_or start j 0) None
  next_here =
      ap₂ next_places (drop-cons sizes j 0 (omega (arith, e, l))) (drop-cons start j 0 within)
      ∙ ap (stepped (get_or sizes j 0) (drop (suc j) sizes) (get_or start j 0)) (subst (λ m. next_places (drop m sizes) (drop m start) ≡ None) e ended)

  -- what is written there
  pub written_here : (x : ℕ) → set now j x ≡ take j start ++ x ∷ zeros (drop (suc j) sizes)
  written_here x = ap (λ ps. set ps j x) (subst (λ m. now ≡ take m start ++ zeros (drop m sizes)) e wrapped) ∙ set_behind start (zeros (drop (suc j) sizes)) j x within

  -- back at the first place there, and behind it
  pub back_here : set now j 0 ≡ take j start ++ zeros (drop j sizes)
  back_here = written_here 0 ∙ ap (λ ps. take j start ++ zeros ps) (sym (drop-cons sizes j 0 (omega (arith, e, l))))

  -- the next place is there, so all go on
  pub goes_on : (place next : ℕ) → place ≡ get_or now j place → next ≡ suc place → next < get_or sizes j 0 → next_places sizes start ≡ Some (set now j next)
  goes_on place next at is lt =
      let n : next ≡ suc (get_or start j 0) = is ∙ ap suc (as_it_was place at) in
      lifted sizes start j (next ∷ zeros (drop (suc j) sizes)) (omega (arith, e, l)) same
      (next_here ∙ ap (λ b. if b then Some (suc (get_or start j 0) ∷ zeros (drop (suc j) sizes)) else None) (lt-ltb _ _ (subst (λ x. x < get_or sizes j 0) n lt)) ∙ ap (λ x. Some (x ∷ zeros (drop (suc j) sizes))) (sym n))
      ∙ ap Some (sym (written_here next))

  -- there is no next place there, nor behind it
  pub ends_here : (place : ℕ) → place ≡ get_or now j place → get_or sizes j 0 ≤ suc place → next_places (drop j sizes) (drop j start) ≡ None
  ends_here place at le =
      next_here ∙ ap (λ b. if b then Some (suc (get_or start j 0) ∷ zeros (drop (suc j) sizes)) else None) (le-ltb _ _ (subst (λ x. get_or sizes j 0 ≤ suc x) (as_it_was place at) le))

-- the next number, where it is below one that fits
pub next_number : (place next size : ℕ) → next ≡ min (place + 1) 18446744073709551615 → next < size → size < 18446744073709551616 → next ≡ suc place
next_number place next size is l fits = omega (arith, is, l, fits)

-- where a number is at most the next one, as far as numbers go, it is at most the next
pub at_most_next : (place next size : ℕ) → next ≡ min (place + 1) 18446744073709551615 → size ≤ next → size ≤ suc place
at_most_next place next size is l = omega (arith, is, l)
