-- Lists of sorts that nest no deeper than others.
use Rattle.std.proofs.Common.{◌≡◌, ◌≤◌, ◌+◌, ◌-◌, ◌||◌, ℕ, suc, Bool, true, false, if◌then◌else◌, List, [], ◌∷◌, ◌++◌, nat_lt, refl, sym, ap, ◌∙◌, arith}
use Rattle.std.proofs.lemmas.Bool.{le-ltb, ltb-false}
use Rattle.og_syntax.specs.declared.lexeme.Sort.{Sort}
use Rattle.og_syntax.specs.declared.lexeme.Sort.TheVariants as k
use Rattle.og_syntax.specs.Lexemes.{is, same_sort}
use Rattle.og_parse.specs.Depth.{opened_after, is_set_word}
use Rattle.og_print.proofs.Depths.{opened_by, nests, number_of, IsNoDeeper}

-- ---- lists that are put together

-- three tests
or_assoc : (a b c : Bool) → ((a || b) || c) ≡ (a || (b || c))
or_assoc true b c = refl
or_assoc false b c = refl

-- neither of two
pub neither : (a b : Bool) → a ≡ false → b ≡ false → (a || b) ≡ false
neither true b e f = cc
neither false b e f = f

-- not the first of two
pub not_first : (a b : Bool) → (a || b) ≡ false → a ≡ false
not_first true b e = cc
not_first false b e = refl

-- not the second of two
pub not_second : (a b : Bool) → (a || b) ≡ false → b ≡ false
not_second true b e = cc
not_second false b e = e

-- what is open after the one and then the other
pub opened_by-append : (n : ℕ) (a b : List Sort) → opened_by n (a ++ b) ≡ opened_by (opened_by n a) b
opened_by-append n [] b = refl
opened_by-append n (x ∷ a) b = opened_by-append (opened_after n x) a b

-- what nests in the one or in the other
pub nests-append : (n : ℕ) (a b : List Sort) → nests n (a ++ b) ≡ (nests n a || nests (opened_by n a) b)
nests-append n [] b = refl
nests-append n (x ∷ a) b =
    ap (λ c. nat_lt 100 (opened_after n x) || c) (nests-append (opened_after n x) a b)
    ∙ sym (or_assoc (nat_lt 100 (opened_after n x)) (nests (opened_after n x) a) (nests (opened_by (opened_after n x) a) b))

-- one more, or not
one_more : (b : Bool) (m n : ℕ) → (if b then suc (m + n) else m + n) ≡ (if b then suc m else m) + n
one_more true m n = omega arith
one_more false m n = refl

-- how many the one and the other have
pub number_of-append : (h : Sort → Bool) (a b : List Sort) → number_of h (a ++ b) ≡ number_of h a + number_of h b
number_of-append h [] b = omega arith
number_of-append h (x ∷ a) b = ap (λ n. if h x then suc n else n) (number_of-append h a b) ∙ one_more (h x) (number_of h a) (number_of h b)

-- ---- no deeper

-- no more than 100
pub low : (m n : ℕ) → m ≤ n → n ≤ 100 → nat_lt 100 m ≡ false
low m n le most = le-ltb 100 m (omega (arith, le, most))

-- nothing
pub no_deeper-nil : IsNoDeeper [] []
no_deeper-nil = record { first_closed = λ n. refl; second_closed = λ n. refl; nested = λ m n le most h. refl; nots = omega arith; set_words = omega arith }

-- a sort that is no parenthesis
pub no_deeper-same : (a : Sort) → ((n : ℕ) → opened_after n a ≡ n) → IsNoDeeper (a ∷ []) (a ∷ [])
no_deeper-same a flat = record {
  first_closed = flat;
  second_closed = flat;
  nested = λ m n le most h. neither (nat_lt 100 (opened_after m a)) false (ap (nat_lt 100) (flat m) ∙ low m n le most) refl;
  nots = omega arith;
  set_words = omega arith;
}

-- the one and then the other
pub no_deeper-append : {a b c d : List Sort} → IsNoDeeper a b → IsNoDeeper c d → IsNoDeeper (a ++ c) (b ++ d)
no_deeper-append {a} {b} {c} {d} A C = record {
  first_closed = λ n. opened_by-append n a c ∙ ap (λ m. opened_by m c) (A.first_closed n) ∙ C.first_closed n;
  second_closed = λ n. opened_by-append n b d ∙ ap (λ m. opened_by m d) (A.second_closed n) ∙ C.second_closed n;
  nested = λ m n le most h.
      let both : (nests n a || nests (opened_by n a) c) ≡ false = sym (nests-append n a c) ∙ h in
      let left : nests m b ≡ false = A.nested m n le most (not_first (nests n a) (nests (opened_by n a) c) both) in
      let after : nests n c ≡ false = ap (λ k. nests k c) (sym (A.first_closed n)) ∙ not_second (nests n a) (nests (opened_by n a) c) both in
      let right : nests (opened_by m b) d ≡ false = ap (λ k. nests k d) (A.second_closed m) ∙ C.nested m n le most after in
      nests-append m b d ∙ neither (nests m b) (nests (opened_by m b) d) left right;
  nots = omega (arith, number_of-append (is k.Not) a c, number_of-append (is k.Not) b d, A.nots, C.nots);
  set_words = omega (arith, number_of-append is_set_word a c, number_of-append is_set_word b d, A.set_words, C.set_words);
}

-- sorts in parentheses
abbrev pub round : List Sort → List Sort
round a = k.LeftParen ∷ a ++ k.RightParen ∷ []

-- parentheses close
closes : (n : ℕ) (a : List Sort) → ((n : ℕ) → opened_by n a ≡ n) → opened_by n (round a) ≡ n
closes n a flat =
    opened_by-append (n + 1) a (k.RightParen ∷ []) ∙ ap (λ m. m - 1) (flat (n + 1)) ∙ less n
  where
    less : (n : ℕ) → n + 1 - 1 ≡ n
    less n = omega arith

-- what stands in parentheses, one level deeper
inner : (n : ℕ) (a : List Sort) → nests n (round a) ≡ false → (n + 1 ≤ 100) × (nests (n + 1) a ≡ false)
inner n a h =
    let rest : nests (n + 1) (a ++ k.RightParen ∷ []) ≡ false = not_second (nat_lt 100 (n + 1)) _ h in (
      ltb-false 100 (n + 1) (not_first (nat_lt 100 (n + 1)) _ h),
      not_first (nests (n + 1) a) (nests (opened_by (n + 1) a) (k.RightParen ∷ [])) (sym (nests-append (n + 1) a (k.RightParen ∷ [])) ∙ rest),
    )

-- the words NOT within parentheses
round_nots : (a : List Sort) → number_of (is k.Not) (round a) ≡ number_of (is k.Not) a
unfolding same_sort
round_nots a = number_of-append (is k.Not) a (k.RightParen ∷ []) ∙ (omega arith)

-- the words between queries within parentheses
round_set_words : (a : List Sort) → number_of is_set_word (round a) ≡ number_of is_set_word a
unfolding same_sort
round_set_words a = number_of-append is_set_word a (k.RightParen ∷ []) ∙ (omega arith)

-- the one and the other in parentheses
pub no_deeper-round : {a b : List Sort} → IsNoDeeper a b → IsNoDeeper (round a) (round b)
no_deeper-round {a} {b} A = record {
  first_closed = λ n. closes n a A.first_closed;
  second_closed = λ n. closes n b A.second_closed;
  nested = λ m n le most h.
      let i = inner n a h in
      let here : nat_lt 100 (m + 1) ≡ false = le-ltb 100 (m + 1) (omega (arith, le, i.0)) in
      let deep : nests (m + 1) b ≡ false = A.nested (m + 1) (n + 1) (omega (arith, le)) i.0 i.1 in
      let last : nests (opened_by (m + 1) b) (k.RightParen ∷ []) ≡ false = ap (λ j. nests j (k.RightParen ∷ [])) (A.second_closed (m + 1)) ∙ neither (nat_lt 100 (m + 1 - 1)) false (le-ltb 100 (m + 1 - 1) (omega (arith, le, most))) refl in
      neither (nat_lt 100 (m + 1)) (nests (m + 1) (b ++ k.RightParen ∷ [])) here
      (nests-append (m + 1) b (k.RightParen ∷ []) ∙ neither (nests (m + 1) b) (nests (opened_by (m + 1) b) (k.RightParen ∷ [])) deep last);
  nots = omega (arith, round_nots a, round_nots b, A.nots);
  set_words = omega (arith, round_set_words a, round_set_words b, A.set_words);
}

-- parentheses that are left out
pub no_deeper-bare : {a b : List Sort} → IsNoDeeper a b → IsNoDeeper (round a) b
no_deeper-bare {a} {b} A = record {
  first_closed = λ n. closes n a A.first_closed;
  second_closed = A.second_closed;
  nested = λ m n le most h. let i = inner n a h in A.nested m (n + 1) (omega (arith, le)) i.0 i.1;
  nots = omega (arith, round_nots a, A.nots);
  set_words = omega (arith, round_set_words a, A.set_words);
}
