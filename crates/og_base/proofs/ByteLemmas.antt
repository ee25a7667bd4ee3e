-- Bytes round a separator.
use Rattle.std.proofs.Common.{◌≡◌, ◌==◌, ◌<◌, ◌+◌, ◌++◌, ℕ, suc, Bool, true, false, cond, List, [], ◌∷◌, length, take, drop, Some, None, subst, refl, sym, ap, ap₂, ◌∙◌, arith}
use Rattle.std.proofs.lemmas.Bool.Decides.{Decides-eqb}
use Rattle.std.specs.List.{position_from}
use Rattle.og_base.specs.Bytes.{Lacks, IsCutAt}

-- where none is found, the text lacks the byte
pub lacks-position : (b from : ℕ) (xs : List ℕ) → position_from (λ x. x == b) from xs ≡ None → Lacks b xs
lacks-position b from [] h = tt
lacks-position b from (x ∷ xs) h = by (x == b) refl h (lacks-position b (from + 1) xs)
  where
    by : (t : Bool) → (x == b) ≡ t → cond t (Some from) (position_from (λ x. x == b) (from + 1) xs) ≡ None
        → (position_from (λ x. x == b) (from + 1) xs ≡ None → Lacks b xs) → Lacks b (x ∷ xs)
    by true e h rest = cc
    by false e h rest = (λ same. cc (sym e ∙ (Decides-eqb x b).1 same), rest h)

-- the place of the first such byte
pub record IsPlaceOf (b : ℕ) (text : List ℕ) (place : ℕ) : Type 0 where
  pub within : place < length text
  pub cut : IsCutAt b text (take place text) (drop 1 (drop place text))

place_more : (b x : ℕ) (xs : List ℕ) (place : ℕ) → (x ≡ b → ⊥) → IsPlaceOf b xs place → IsPlaceOf b (x ∷ xs) (suc place)
place_more b x xs place differs h = record {
  within = omega (arith, h.within);
  cut = record { joined = ap (λ ys. x ∷ ys) h.cut.joined; first = (differs, h.cut.first) };
}

some_same : (from found : ℕ) → Some from ≡ Some found → found ≡ from + 0
some_same from found h = let e : from ≡ found = cc in omega (arith, e)

-- a place that is found, counted on from where the search began
pub place-position : (b from : ℕ) (xs : List ℕ) (found : ℕ) → position_from (λ x. x == b) from xs ≡ Some found → (place : ℕ) × (found ≡ from + place) × IsPlaceOf b xs place
place-position b from [] found h = cc
place-position b from (x ∷ xs) found h = by (x == b) refl h (place-position b (from + 1) xs found)
  where
    by : (t : Bool) → (x == b) ≡ t → cond t (Some from) (position_from (λ x. x == b) (from + 1) xs) ≡ Some found
        → (position_from (λ x. x == b) (from + 1) xs ≡ Some found → (place : ℕ) × (found ≡ from + 1 + place) × IsPlaceOf b xs place)
        → (place : ℕ) × (found ≡ from + place) × IsPlaceOf b (x ∷ xs) place
    by true e h rest = (0, some_same from found h, record { within = omega arith; cut = record { joined = ap (λ y. y ∷ xs) ((Decides-eqb x b).0 e); first = tt } })
    by false e h rest = let r = rest h in (suc r.0, omega (arith, r.1), place_more b x xs r.0 (λ same. cc (sym e ∙ (Decides-eqb x b).1 same)) r.2)

-- the text is cut at a place that is found
pub cut-position : (b : ℕ) (xs : List ℕ) (place : ℕ) → position_from (λ x. x == b) 0 xs ≡ Some place → IsPlaceOf b xs place
cut-position b xs place h = let r = place-position b 0 xs place h in subst (IsPlaceOf b xs) (omega (arith, r.1)) r.2

pub Lacks-above : (b x : ℕ) (xs : List ℕ) → b < x → Lacks b xs → Lacks b (x ∷ xs)
Lacks-above b x xs h rest = (λ e. omega (arith, e), rest)

pub Lacks-append : (b : ℕ) (xs ys : List ℕ) → Lacks b xs → Lacks b ys → Lacks b (xs ++ ys)
Lacks-append b [] ys h k = k
Lacks-append b (x ∷ xs) ys h k = (h.0, Lacks-append b xs ys h.1 k)

-- a text is cut at its first such byte in one way
pub cut_once : (b : ℕ) (xs ys us vs : List ℕ) → Lacks b xs → Lacks b ys → xs ++ b ∷ us ≡ ys ++ b ∷ vs → (xs ≡ ys) × (us ≡ vs)
cut_once b [] [] us vs h k e = (refl, cc)
cut_once b [] (y ∷ ys) us vs h k e = absurd (k.0 (let f : b ≡ y = cc in sym f))
cut_once b (x ∷ xs) [] us vs h k e = absurd (h.0 (cc))
cut_once b (x ∷ xs) (y ∷ ys) us vs h k e =
    let rest = cut_once b xs ys us vs h.1 k.1 (cc) in
    let head : x ≡ y = cc in
    (ap₂ (λ z zs. z ∷ zs) head rest.0, rest.1)

-- a text that lacks the byte is not cut there
pub not_cut : (b : ℕ) (text xs us : List ℕ) → Lacks b text → text ≡ xs ++ b ∷ us → ⊥
not_cut b text xs us h e = go xs (subst (Lacks b) e h)
  where
    go : (ys : List ℕ) → Lacks b (ys ++ b ∷ us) → ⊥
    go [] k = k.0 refl
    go (y ∷ ys) k = go ys k.1
