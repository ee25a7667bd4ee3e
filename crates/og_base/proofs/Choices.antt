-- What is so or is not, of bytes and of numbers.
use Rattle.std.proofs.Common.{◌≡◌, ◌⊎◌, ◌<◌, ◌≤◌, ◌≤ℤ◌, ◌<ℤ◌, ◌++◌, ◌∷◌, [], ℕ, ℤ, List, Bool, true, false, length, refl, ap, inl, inr, arith}
use Rattle.std.specs.Bool.{Decides}
use Rattle.std.specs.Char.{digit_value}
use Rattle.std.specs.Str.{IsUtf8, bytes_eq, is_utf8}
use Rattle.std.specs.Str.Parse.{AllDigits, IsNumeral}
use Rattle.std.proofs.lemmas.Int.{by_lt_z, ints}
use Rattle.std.proofs.lemmas.Slice.Eq.{bytes_eq-Decides}
use Rattle.std.proofs.lemmas.Str.{IsUtf8-from_is_utf8, is_utf8-from_IsUtf8}
use native.Mathlib.Decide.{dec_lt}
use Rattle.og_base.specs.Bytes.{Lacks, IsCutAt}

-- it is so, or it is not
abbrev pub Or : Type 0 → Type 0
Or P = P ⊎ (P → ⊥)

pub by_bool : {P : Type 0} (b : Bool) → Decides b P → Or P
by_bool true is = inl (is.0 refl)
by_bool false is = inr (λ p. cc (is.1 p))

-- one of them, or none of them
pub none_of : {T : Type 0} {P : T → Type 0} → Or ((t : T) × P t) → ((t : T) × P t) ⊎ ((t : T) → P t → ⊥)
none_of (inl h) = inl h
none_of (inr out) = inr (λ t h. out (t, h))

-- where either says the other
pub like : {P Q : Type 0} → (P → Q) → (Q → P) → Or P → Or Q
like to from (inl p) = inl (to p)
like to from (inr out) = inr (λ q. out (from q))

pub both : {P Q : Type 0} → Or P → Or Q → Or (P × Q)
both (inl p) (inl q) = inl (p, q)
both (inl p) (inr q) = inr (λ h. q h.1)
both (inr p) q = inr (λ h. p h.0)

pub three : {P Q R : Type 0} → Or P → Or Q → Or R → Or (P × Q × R)
three (inl p) (inl q) (inl r) = inl (p, q, r)
three (inl p) (inl q) (inr r) = inr (λ h. r h.2)
three (inl p) (inr q) r = inr (λ h. q h.1)
three (inr p) q r = inr (λ h. p h.0)

pub same_text : (xs ys : List ℕ) → Or (xs ≡ ys)
same_text xs ys = by_bool (bytes_eq xs ys) (bytes_eq-Decides xs ys)

pub less : (n m : ℕ) → Or (n < m)
less n m = elim (dec_lt n m) [
  | yes h ↦ inl h
  | no h ↦ inr h
]

pub number : (n m : ℕ) → Or (n ≡ m)
number n m = elim (dec_lt n m) [
  | yes h ↦ inr (λ e. omega (arith, h, e))
  | no h ↦ elim (dec_lt m n) [
    | yes k ↦ inr (λ e. omega (arith, k, e))
    | no k ↦ inl (omega (arith, h, k))
  ]
]

pub at_most : (n m : ℕ) → Or (n ≤ m)
at_most n m = elim (dec_lt m n) [
  | yes h ↦ inr (λ k. omega (arith, h, k))
  | no h ↦ inl (omega (arith, h))
]

pub less_z : (a b : ℤ) → Or (a <ℤ b)
less_z a b = by_lt_z {P = Or (a <ℤ b)} a b (λ h. inl h) (λ h. inr (λ k. omega (arith, ints, h, k)))

pub at_most_z : (a b : ℤ) → Or (a ≤ℤ b)
at_most_z a b = by_lt_z {P = Or (a ≤ℤ b)} b a (λ h. inr (λ k. omega (arith, ints, h, k))) (λ h. inl h)

-- ---- bytes

pub utf8 : (text : List ℕ) → Or (IsUtf8 text)
utf8 text = by_bool (is_utf8 text) (IsUtf8-from_is_utf8 text, is_utf8-from_IsUtf8 text)

pub digits : (ds : List ℕ) → Or (AllDigits 10 ds)
digits [] = inl tt
digits (c ∷ cs) = both (less (digit_value c) 10) (digits cs)

pub numeral : (ds : List ℕ) → Or (IsNumeral 10 ds)
numeral ds = both (less 0 (length ds)) (digits ds)

-- the bytes go on from others, or do not
pub goes_on : (front text : List ℕ) → Or ((rest : List ℕ) × (text ≡ front ++ rest))
goes_on [] text = inl (text, refl)
goes_on (x ∷ front) [] = inr (λ h. cc h.1)
goes_on (x ∷ front) (y ∷ text) = by (number y x) (goes_on front text)
  where
    by : Or (y ≡ x) → Or ((rest : List ℕ) × (text ≡ front ++ rest)) → Or ((rest : List ℕ) × (y ∷ text ≡ x ∷ front ++ rest))
    by (inl same) (inl h) = inl (h.0, rw (same, h.1) refl)
    by (inr other) h = inr (λ k. other (let same : y ≡ x = cc k.1 in same))
    by (inl same) (inr out) = inr (λ k. out (k.0, let rest : text ≡ front ++ k.0 = cc k.1 in rest))

pub cut_or_lacks : (b : ℕ) (text : List ℕ) → ((low : List ℕ) × (high : List ℕ) × IsCutAt b text low high) ⊎ Lacks b text
cut_or_lacks b [] = inr tt
cut_or_lacks b (x ∷ xs) = by (number x b) (cut_or_lacks b xs)
  where
    by : Or (x ≡ b) → ((low : List ℕ) × (high : List ℕ) × IsCutAt b xs low high) ⊎ Lacks b xs → ((low : List ℕ) × (high : List ℕ) × IsCutAt b (x ∷ xs) low high) ⊎ Lacks b (x ∷ xs)
    by (inl same) more = inl ([], xs, record { joined = ap (λ z. z ∷ xs) same; first = tt })
    by (inr other) (inl cut) = inl (x ∷ cut.0, cut.1, record { joined = ap (λ l. x ∷ l) cut.2.joined; first = (other, cut.2.first) })
    by (inr other) (inr lacks) = inr (other, lacks)

-- ---- a text's end

-- a text ends with another, or not
pub ends_with : (suffix text : List ℕ) → Or ((front : List ℕ) × (text ≡ front ++ suffix))
ends_with suffix [] = like (λ same. ([], same)) (λ h. none h.0 h.1) (same_text [] suffix)
  where
    none : (front : List ℕ) → [] ≡ front ++ suffix → [] ≡ suffix
    none [] e = e
    none (y ∷ front) e = cc e
ends_with suffix (x ∷ xs) = by (same_text (x ∷ xs) suffix) (ends_with suffix xs)
  where
    neither : (x ∷ xs ≡ suffix → ⊥) → ((front : List ℕ) × (xs ≡ front ++ suffix) → ⊥) → (front : List ℕ) → x ∷ xs ≡ front ++ suffix → ⊥
    neither here out [] e = here e
    neither here out (y ∷ front) e = out (front, let rest : xs ≡ front ++ suffix = cc e in rest)

    by : Or (x ∷ xs ≡ suffix) → Or ((front : List ℕ) × (xs ≡ front ++ suffix)) → Or ((front : List ℕ) × (x ∷ xs ≡ front ++ suffix))
    by (inl same) more = inl ([], same)
    by (inr here) (inl more) = inl (x ∷ more.0, ap (λ l. x ∷ l) more.1)
    by (inr here) (inr out) = inr (λ h. neither here out h.0 h.1)
