-- Each set of days has one text.
use Rattle.std.proofs.Common.{◌≡◌, inl, inr, ◌<◌, ℕ, ℤ, ◌<ℤ◌, ◌++◌, [], ◌∷◌, Bool, true, false, cond, refl, sym, ap, ap₂, subst, ◌∙◌, arith, rules, List, codes, append_assoc, append-nil, int_lt, length, ◌==◌, ◌≤◌, ◌+◌, suc, zero, take, get_or, slice_get, Some}
use Rattle.std.specs.Ordering.{int_eq}
use Rattle.std.proofs.lemmas.Bool.Decides.{Decides-int_eq, Decides-eqb}
use Rattle.std.proofs.lemmas.Int.{ints}
use Rattle.std.proofs.lemmas.Option.{slice_get_within, get_or_from_slice_get}
use Rattle.std.proofs.Math.Seq.{take-suc}
use Rattle.og_base.specs.Told.{IsPrefix}
use Rattle.og_base.specs.Bytes.{Lacks, IsCutAt}
use Rattle.og_base.specs.Calendar.{IsDayText, IsRefDayText, IsRefDay, IsExtDay, day_text, first_day, before_all, after_all}
use Rattle.og_base.specs.Ranges.{Range, IsRange, IsNormal, BeginAfter}
use Rattle.og_base.specs.Boundaries.{ranges_of, boundaries_of, Rises}
use Rattle.og_base.specs.SetTexts.{lower_text, range_text, ranges_text, set_text, IsEndsOf, IsRangeBefore}
use Rattle.og_base.proofs.BoundaryLemmas.{Rises-normal, ranges_of-normal}
use Rattle.og_base.proofs.ByteLemmas.{cut_once, not_cut}
use Rattle.og_base.proofs.DayTexts.{day_text_is, text_is, civil_in_range, day_text-first, Lacks-day_text}

-- a reference day is an extended day
pub ext_day : (n : ℤ) → IsRefDay n → IsExtDay n
ext_day n h = (omega (arith, ints, h.0), omega (arith, ints, h.1))

-- a text is of one day at most
pub one_day : (text : List ℕ) (m n : ℤ) → IsDayText text m → IsDayText text n → m ≡ n
one_day text m n h k = search rules

pub same_day_text : (m n : ℤ) → IsExtDay m → IsExtDay n → day_text m ≡ day_text n → m ≡ n
same_day_text m n h k e = one_day (day_text n) m n (subst (λ t. IsDayText t m) e (day_text_is m h)) (day_text_is n k)

-- a lower end is the first day, or another day
by_first : {P : Type 0} (lo : ℤ) → (lo ≡ first_day → lower_text lo ≡ codes "-infinity" → P) → ((lo ≡ first_day → ⊥) → lower_text lo ≡ day_text lo → P) → P
by_first {P} lo f g = at (int_eq lo first_day) refl
  where
    at : (t : Bool) → int_eq lo first_day ≡ t → P
    at true e = f ((Decides-int_eq lo first_day).0 e) (rw e refl)
    at false e = g (λ same. cc (sym ((Decides-int_eq lo first_day).1 same) ∙ e)) (rw e refl)

Lacks-lower_text : (b : ℕ) (lo : ℤ) → b < 45 → IsRefDay lo → Lacks b (lower_text lo)
Lacks-lower_text b lo h is =
    by_first lo
    (λ _ e. subst (Lacks b) (sym e) (Lacks-day_text b (codes "-infinity") before_all h (inl (refl, refl))))
    (λ _ e. subst (Lacks b) (sym e) (Lacks-day_text b (day_text lo) lo h (day_text_is lo (ext_day lo is))))

-- no day text of a reference day is that of -infinity
no_infinity : (n : ℤ) → IsRefDay n → codes "-infinity" ≡ day_text n → ⊥
no_infinity n is e =
    let same = one_day (day_text n) before_all n (subst (λ t. IsDayText t before_all) e (inl (refl, refl))) (day_text_is n (ext_day n is)) in
    omega (arith, ints, same, is.0)

pub same_lower_text : (m n : ℤ) → IsRefDay m → IsRefDay n → lower_text m ≡ lower_text n → m ≡ n
same_lower_text m n h k e =
    by_first m
    (λ first a. by_first n
    (λ second b. first ∙ sym second)
    (λ _ b. absurd (no_infinity n k (sym a ∙ e ∙ b))))
    (λ _ a. by_first n
    (λ _ b. absurd (no_infinity m h (sym b ∙ sym e ∙ a)))
    (λ _ b. same_day_text m n (ext_day m h) (ext_day n k) (sym a ∙ e ∙ b)))

-- texts that begin apart
begin_apart : {G : Type 0} (x y : ℕ) (xs ys : List ℕ) → x < y → x ∷ xs ≡ y ∷ ys → G
begin_apart x y xs ys h e = let same : x ≡ y = cc in absurd (omega (arith, h, same))

-- texts that begin alike go on alike
go_alike : (x : ℕ) (xs ys : List ℕ) → x ∷ xs ≡ x ∷ ys → xs ≡ ys
go_alike x xs ys e = cc

-- without a comma there are no two ends
pub ends_no_comma : (text inside : List ℕ) → text ≡ 91 ∷ inside → Lacks 44 inside → (a b u : List ℕ) → IsEndsOf text a b u → ⊥
ends_no_comma text inside e none a b u h = not_cut 44 inside a (b ++ 41 ∷ u) none (go_alike 91 inside (a ++ 44 ∷ (b ++ 41 ∷ u)) (sym e ∙ h.joined))

-- and without a bracket behind the comma
pub ends_no_bracket : (text inside lower rest : List ℕ) → text ≡ 91 ∷ inside → IsCutAt 44 inside lower rest → Lacks 41 rest → (a b u : List ℕ) → IsEndsOf text a b u → ⊥
ends_no_bracket text inside lower rest e cut none a b u h =
    let same = go_alike 91 inside (a ++ 44 ∷ (b ++ 41 ∷ u)) (sym e ∙ h.joined) in
    not_cut 41 rest b u none (cut_once 44 lower a rest (b ++ 41 ∷ u) cut.first h.lower_plain (sym cut.joined ∙ same)).1

-- the day text of a reference day
ref_day_text : (text : List ℕ) (n : ℤ) → IsRefDay n → IsDayText text n → IsRefDayText text n
ref_day_text text n is (inl h) = absurd (omega (arith, ints, h.1, is.0))
ref_day_text text n is (inr (inl h)) = absurd (omega (arith, ints, h.1, is.1))
ref_day_text text n is (inr (inr h)) = h

-- no text of a lower end: not -infinity, and the text of no day but the first
pub no_lower_text : (text : List ℕ) → (text ≡ codes "-infinity" → ⊥) → ((n : ℤ) → (n ≡ first_day → ⊥) → IsRefDayText text n → ⊥)
    → (n : ℤ) → IsRefDay n → text ≡ lower_text n → ⊥
no_lower_text text other none n is e =
    by_first n
    (λ _ a. other (e ∙ a))
    (λ later a. none n later (ref_day_text text n is (subst (λ t. IsDayText t n) (sym (e ∙ a)) (day_text_is n (ext_day n is)))))

-- the text of a day that is not the first
pub lower_text_is : (text : List ℕ) (n : ℤ) → (n ≡ first_day → ⊥) → IsRefDayText text n → text ≡ lower_text n
lower_text_is text n other is =
    let e = text_is text n (ext_day n (civil_in_range text n is)) (inr (inr is)) in
    by_first n (λ same _. absurd (other same)) (λ _ a. e ∙ sym a)

-- the text of -infinity is that of the first day as a lower end
pub lower_text-infinity : (n : ℤ) → n ≡ first_day → day_text before_all ≡ lower_text n
lower_text-infinity n e = day_text-first before_all refl ∙ by_first n (λ _ a. sym a) (λ other _. absurd (other e))

-- a text is cut at its ends in one way
pub one_ends : (text a b u c d v : List ℕ) → IsEndsOf text a b u → IsEndsOf text c d v → (a ≡ c) × (b ≡ d) × (u ≡ v)
one_ends text a b u c d v h k =
    let e = sym h.joined ∙ k.joined in
    let f : a ++ 44 ∷ (b ++ 41 ∷ u) ≡ c ++ 44 ∷ (d ++ 41 ∷ v) = cc in
    let first = cut_once 44 a c (b ++ 41 ∷ u) (d ++ 41 ∷ v) h.lower_plain k.lower_plain f in
    let second = cut_once 41 b d u v h.upper_plain k.upper_plain first.1 in
    (first.0, second.0, second.1)

-- the ends of a range at the front of a text
pub IsEndsOf-range : (r : Range) (after : List ℕ) → IsRange r → IsEndsOf (range_text r ++ after) (lower_text r.lo) (day_text r.hi) after
IsEndsOf-range r after h = record {
  joined = ap (λ t. 91 ∷ t) (append_assoc (lower_text r.lo) (44 ∷ day_text r.hi ++ 41 ∷ []) after ∙ ap (λ t. lower_text r.lo ++ 44 ∷ t) (append_assoc (day_text r.hi) (41 ∷ []) after));
  lower_plain = Lacks-lower_text 44 r.lo (omega arith) h.lo_in;
  upper_plain = Lacks-day_text 41 (day_text r.hi) r.hi (omega arith) (day_text_is r.hi h.hi_in);
}

pub ends_of_range : (text : List ℕ) (r : Range) (after : List ℕ) → IsRange r → text ≡ range_text r ++ after → IsEndsOf text (lower_text r.lo) (day_text r.hi) after
ends_of_range text r after h e = subst (λ t. IsEndsOf t (lower_text r.lo) (day_text r.hi) after) (sym e) (IsEndsOf-range r after h)

-- and the other way round
pub range_of_ends : (text a b after : List ℕ) (r : Range) → IsEndsOf text a b after → a ≡ lower_text r.lo → b ≡ day_text r.hi → text ≡ range_text r ++ after
range_of_ends text a b after r h lower upper =
    h.joined ∙ ap₂ (λ x y. 91 ∷ x ++ (44 ∷ y ++ 41 ∷ after)) lower upper
    ∙ ap (λ t. 91 ∷ t) (sym (append_assoc (lower_text r.lo) (44 ∷ day_text r.hi ++ 41 ∷ []) after ∙ ap (λ t. lower_text r.lo ++ 44 ∷ t) (append_assoc (day_text r.hi) (41 ∷ []) after)))

-- a text has one range at its front
pub one_range : (r q : Range) (us vs : List ℕ) → IsRange r → IsRange q → range_text r ++ us ≡ range_text q ++ vs → (r ≡ q) × (us ≡ vs)
one_range r q us vs h k e =
    let ends = one_ends (range_text q ++ vs) _ _ us _ _ vs (subst (λ t. IsEndsOf t (lower_text r.lo) (day_text r.hi) us) e (IsEndsOf-range r us h)) (IsEndsOf-range q vs k) in
    (ap₂ (λ x y. let p : Range = record { lo = x; hi = y } in p) (same_lower_text r.lo q.lo h.lo_in k.lo_in ends.0) (same_day_text r.hi q.hi h.hi_in k.hi_in ends.1), ends.2)

-- the ranges, and the brace behind them
abbrev pub closed : List Range → List ℕ
closed rs = ranges_text rs ++ 125 ∷ []

closed-more : (r q : Range) (rs : List Range) → closed (r ∷ (q ∷ rs)) ≡ range_text r ++ 44 ∷ closed (q ∷ rs)
closed-more r q rs = append_assoc (range_text r) (44 ∷ ranges_text (q ∷ rs)) (125 ∷ [])

pub same_closed : (s t : List Range) → IsNormal s → IsNormal t → closed s ≡ closed t → s ≡ t
same_closed [] [] h k e = refl
same_closed [] (q ∷ []) h k e = begin_apart 91 125 _ _ (omega arith) (sym e)
same_closed [] (q ∷ (p ∷ ps)) h k e = begin_apart 91 125 _ _ (omega arith) (sym e)
same_closed (r ∷ []) [] h k e = begin_apart 91 125 _ _ (omega arith) e
same_closed (r ∷ (p ∷ ps)) [] h k e = begin_apart 91 125 _ _ (omega arith) e
same_closed (r ∷ []) (q ∷ []) h k e = ap (λ x. x ∷ []) (one_range r q (125 ∷ []) (125 ∷ []) h.0 k.0 e).0
same_closed (r ∷ []) (q ∷ (p ∷ ps)) h k e =
    begin_apart 44 125 (closed (p ∷ ps)) [] (omega arith) (sym (one_range r q (125 ∷ []) (44 ∷ closed (p ∷ ps)) h.0 k.0 (e ∙ closed-more q p ps)).1)
same_closed (r ∷ (p ∷ ps)) (q ∷ []) h k e =
    begin_apart 44 125 (closed (p ∷ ps)) [] (omega arith) (one_range r q (44 ∷ closed (p ∷ ps)) (125 ∷ []) h.0 k.0 (sym (closed-more r p ps) ∙ e)).1
same_closed (r ∷ (p ∷ ps)) (q ∷ (o ∷ os)) h k e =
    let both = one_range r q (44 ∷ closed (p ∷ ps)) (44 ∷ closed (o ∷ os)) h.0 k.0 (sym (closed-more r p ps) ∙ e ∙ closed-more q o os) in
    ap₂ (λ x xs. x ∷ xs) both.0 (same_closed (p ∷ ps) (o ∷ os) h.2 k.2 (go_alike 44 (closed (p ∷ ps)) (closed (o ∷ os)) both.1))

-- each text is of one set at most
pub one_set : (s t : List Range) → IsNormal s → IsNormal t → set_text s ≡ set_text t → s ≡ t
one_set s t h k e = same_closed s t h k (cc)

-- the ranges with a comma behind each
abbrev pub front : List Range → List ℕ
front [] = []
front (r ∷ rs) = range_text r ++ 44 ∷ front rs

front-append : (r : Range) (rs : List Range) (rest : List ℕ) → front (r ∷ rs) ++ rest ≡ range_text r ++ 44 ∷ (front rs ++ rest)
front-append r rs rest = append_assoc (range_text r) (44 ∷ front rs) rest

-- one more range, and its comma
pub front-more : (rs : List Range) (r : Range) (rest : List ℕ) → front (rs ++ r ∷ []) ++ rest ≡ front rs ++ (range_text r ++ 44 ∷ rest)
front-more [] r rest = front-append r [] rest
front-more (q ∷ rs) r rest = front-append q (rs ++ r ∷ []) rest ∙ ap (λ t. range_text q ++ 44 ∷ t) (front-more rs r rest) ∙ sym (front-append q rs (range_text r ++ 44 ∷ rest))

-- one more range, and the brace
pub closed-last : (rs : List Range) (r : Range) → front rs ++ (range_text r ++ 125 ∷ []) ≡ closed (rs ++ r ∷ [])
closed-last [] r = refl
closed-last (q ∷ []) r = front-append q [] (range_text r ++ 125 ∷ []) ∙ sym (closed-more q r [])
closed-last (q ∷ (p ∷ ps)) r = front-append q (p ∷ ps) (range_text r ++ 125 ∷ []) ∙ ap (λ t. range_text q ++ 44 ∷ t) (closed-last (p ∷ ps) r) ∙ sym (closed-more q p (ps ++ r ∷ []))

-- ranges that were read are the first of each set that the text is of, and there are more
pub left_of : (rs : List Range) (q : Range) (qs : List Range) (rest : List ℕ) → IsNormal rs → IsNormal (q ∷ qs) → front rs ++ rest ≡ closed (q ∷ qs)
    → (p : Range) × (ps : List Range) × (q ∷ qs ≡ rs ++ p ∷ ps) × (rest ≡ closed (p ∷ ps))
left_of [] q qs rest h k e = (q, qs, refl, e)
left_of (r ∷ rs) q [] rest h k e =
    begin_apart 44 125 (front rs ++ rest) [] (omega arith) (one_range r q (44 ∷ (front rs ++ rest)) (125 ∷ []) h.0 k.0 (sym (front-append r rs rest) ∙ e)).1
left_of (r ∷ rs) q (p ∷ ps) rest h k e =
    let both = one_range r q (44 ∷ (front rs ++ rest)) (44 ∷ closed (p ∷ ps)) h.0 k.0 (sym (front-append r rs rest) ∙ e ∙ closed-more q p ps) in
    let more = left_of rs p ps rest h.2 k.2 (go_alike 44 (front rs ++ rest) (closed (p ∷ ps)) both.1) in
    (more.0, more.1, ap₂ (λ x xs. x ∷ xs) (sym both.0) more.2, more.3)

-- boundaries of ranges behind ranges
boundaries_of-append : (rs qs : List Range) → boundaries_of (rs ++ qs) ≡ boundaries_of rs ++ boundaries_of qs
boundaries_of-append [] qs = refl
boundaries_of-append (r ∷ rs) qs = at (int_lt r.hi after_all) (boundaries_of-append rs qs)
  where
    at : (t : Bool) → boundaries_of (rs ++ qs) ≡ boundaries_of rs ++ boundaries_of qs
        → cond t (r.lo ∷ (r.hi ∷ boundaries_of (rs ++ qs))) (r.lo ∷ boundaries_of (rs ++ qs)) ≡ cond t (r.lo ∷ (r.hi ∷ boundaries_of rs)) (r.lo ∷ boundaries_of rs) ++ boundaries_of qs
    at true e = ap (λ bs. r.lo ∷ (r.hi ∷ bs)) e
    at false e = ap (λ bs. r.lo ∷ bs) e

-- the text up to the rest has been read as ranges, which end at the day and have these boundaries
pub record IsRead (text : List ℕ) (bs : List ℤ) (low : ℤ) (rest : List ℕ) : Type 0 where
  pub ranges : List Range
  pub joined : text ≡ front ranges ++ rest
  pub boundaries : bs ≡ boundaries_of ranges
  pub normal : (t : List Range) → IsNormal t → BeginAfter low t → IsNormal (ranges ++ t)
  pub rises : (t : List Range) → IsNormal (ranges ++ t) → IsNormal t × BeginAfter low t

BeginAfter-all : (t : List Range) → IsNormal t → BeginAfter before_all t
BeginAfter-all [] h = tt
BeginAfter-all (r ∷ rs) h = omega (arith, ints, h.0.lo_in.0)

pub IsRead-start : (text : List ℕ) → IsRead text [] before_all text
IsRead-start text = record { ranges = []; joined = refl; boundaries = refl; normal = λ t h _. h; rises = λ t h. (h, BeginAfter-all t h) }

pub IsRead-next : {text rest : List ℕ} {bs : List ℤ} {low : ℤ} → IsRead text bs low rest → (r : Range) (after : List ℕ) → IsRangeBefore 44 low rest r after
    → IsRead text (bs ++ boundaries_of (r ∷ [])) r.hi after
IsRead-next h r after at = record {
  ranges = h.ranges ++ r ∷ [];
  joined = h.joined ∙ ap (λ t. front h.ranges ++ t) at.joined ∙ sym (front-more h.ranges r after);
  boundaries = ap (λ bs. bs ++ boundaries_of (r ∷ [])) h.boundaries ∙ sym (boundaries_of-append h.ranges (r ∷ []));
  normal = λ t n b. subst IsNormal (sym (append_assoc h.ranges (r ∷ []) t)) (h.normal (r ∷ t) (at.range, b, n) at.later);
  rises = λ t n. let more = h.rises (r ∷ t) (subst IsNormal (append_assoc h.ranges (r ∷ []) t) n) in (more.0.2, more.0.1);
}

-- the set of the ranges and a last one
pub IsRead-end : {text rest : List ℕ} {bs : List ℤ} {low : ℤ} → IsRead text bs low rest → (r : Range) → IsRangeBefore 125 low rest r []
    → Rises before_all (bs ++ boundaries_of (r ∷ [])) × (text ≡ closed (ranges_of (bs ++ boundaries_of (r ∷ []))))
IsRead-end h r at =
    let n = h.normal (r ∷ []) (at.range, tt, tt) at.later in
    let same = ap (λ bs. bs ++ boundaries_of (r ∷ [])) h.boundaries ∙ sym (boundaries_of-append h.ranges (r ∷ [])) in (
      Rises-normal _ _ same n,
      h.joined ∙ ap (λ t. front h.ranges ++ t) at.joined ∙ closed-last h.ranges r ∙ ap closed (sym (ranges_of-normal _ _ same n)),
    )

-- no set has the text, where no range follows
pub IsRead-none : {text rest : List ℕ} {bs : List ℤ} {low : ℤ} → IsRead text bs low rest
    → ((r : Range) (after : List ℕ) → IsRangeBefore 44 low rest r after → ⊥)
    → ((r : Range) → IsRangeBefore 125 low rest r [] → ⊥)
    → (q : Range) (qs : List Range) → IsNormal (q ∷ qs) → text ≡ closed (q ∷ qs) → ⊥
IsRead-none {text} {rest} {bs} {low} h next last q qs n e =
    let read = subst IsNormal (append-nil h.ranges) (h.normal [] tt tt) in
    let more = left_of h.ranges q qs rest read n (sym h.joined ∙ e) in
    let rises = h.rises (more.0 ∷ more.1) (subst IsNormal more.2 n) in
    at more.0 more.1 rises.0 rises.1 more.3
  where
    at : (p : Range) (ps : List Range) → IsNormal (p ∷ ps) → low <ℤ p.lo → rest ≡ closed (p ∷ ps) → ⊥
    at p [] n l e = last p (record { range = n.0; later = l; joined = e })
    at p (o ∷ os) n l e = next p (closed (o ∷ os)) (record { range = n.0; later = l; joined = e ∙ closed-more p o os })

-- where bytes follow a range and its brace, no range stands with its brace at the end
pub not_last : {low : ℤ} {rest after : List ℕ} {r : Range} → IsRangeBefore 125 low rest r after → (after ≡ [] → ⊥) → (q : Range) → IsRangeBefore 125 low rest q [] → ⊥
not_last {low} {rest} {after} {r} h some q k =
    some (go_alike 125 after [] (one_range r q (125 ∷ after) (125 ∷ []) h.range k.range (sym h.joined ∙ k.joined)).1)

-- no set text: not that of the empty set, and not that of ranges
pub no_set_text : (text rest : List ℕ) → text ≡ 123 ∷ rest → (text ≡ codes "{}" → ⊥) → ((q : Range) (qs : List Range) → IsNormal (q ∷ qs) → rest ≡ closed (q ∷ qs) → ⊥)
    → (s : List Range) → IsNormal s → text ≡ set_text s → ⊥
no_set_text text rest h empty some [] n e = empty e
no_set_text text rest h empty some (q ∷ qs) n e = some q qs n (go_alike 123 rest (closed (q ∷ qs)) (sym h ∙ e))

-- one range more in a list that has some
pub ranges_text-more : (q : Range) (rs : List Range) (r : Range) → ranges_text (q ∷ (rs ++ r ∷ [])) ≡ ranges_text (q ∷ rs) ++ 44 ∷ range_text r
ranges_text-more q [] r = refl
ranges_text-more q (p ∷ ps) r = ap (λ t. range_text q ++ 44 ∷ t) (ranges_text-more p ps r) ∙ sym (append_assoc (range_text q) (44 ∷ ranges_text (p ∷ ps)) (44 ∷ range_text r))

-- bytes that a test found to be none, or some
pub none_left : (xs : List ℕ) (b : Bool) → b ≡ (length xs == 0) → b ≡ true → xs ≡ []
none_left [] b e h = refl
none_left (x ∷ xs) b e h = absurd (omega (arith, (Decides-eqb (suc (length xs)) 0).0 (sym e ∙ h)))

pub some_left : (xs : List ℕ) (b : Bool) → b ≡ (length xs == 0) → b ≡ false → xs ≡ [] → ⊥
some_left xs b e h none = cc (sym h ∙ e ∙ (Decides-eqb (length xs) 0).1 (ap length none))

-- the text of the first range
ranges_text-first : (rs : List Range) (r : Range) → slice_get rs 0 ≡ Some r → ranges_text (take 1 rs) ≡ range_text r
ranges_text-first [] r h = cc
ranges_text-first (q ∷ qs) r h = let same : q ≡ r = cc in ap range_text same

-- the text of the ranges up to a place behind the first, and of the one there
ranges_text-next : (rs : List Range) (i : ℕ) (r : Range) → 0 < i → slice_get rs i ≡ Some r → ranges_text (take (i + 1) rs) ≡ ranges_text (take i rs) ++ 44 ∷ range_text r
ranges_text-next [] i r some h = absurd (omega (arith, slice_get_within [] i r h))
ranges_text-next (q ∷ qs) zero r some h = absurd (omega (arith, some))
ranges_text-next (q ∷ qs) (suc j) r some h =
    let within : j < length qs = omega (arith, slice_get_within (q ∷ qs) (suc j) r h) in
    let it : get_or qs j r ≡ r = get_or_from_slice_get (q ∷ qs) (suc j) r r h in
    let more : take (suc j) qs ≡ take j qs ++ r ∷ [] = take-suc qs j r within ∙ ap (λ x. take j qs ++ x ∷ []) it in
    let e : suc j + 1 ≡ suc (suc j) = omega arith in
    ap (λ n. ranges_text (take n (q ∷ qs))) e ∙ ap (λ t. ranges_text (q ∷ t)) more ∙ ranges_text-more q (take j qs) r

-- a range that is written first
pub put_first : (old out mid : List ℕ) (rs : List Range) (i : ℕ) (r : Range) → out ≡ old ++ 123 ∷ ranges_text (take i rs) → mid ≡ out → i ≤ 0 → slice_get rs i ≡ Some r
    → mid ++ range_text r ≡ old ++ 123 ∷ ranges_text (take (i + 1) rs)
put_first old out mid rs (suc i) r h e first at = absurd (omega (arith, first))
put_first old out mid rs zero r h e first at =
    ap (λ t. t ++ range_text r) (e ∙ h) ∙ append_assoc old (123 ∷ []) (range_text r) ∙ ap (λ t. old ++ 123 ∷ t) (sym (ranges_text-first rs r at))

-- a range that is written behind a comma
pub put_next : (old out mid : List ℕ) (rs : List Range) (i : ℕ) (r : Range) → out ≡ old ++ 123 ∷ ranges_text (take i rs) → mid ≡ out ++ 44 ∷ [] → 0 < i → slice_get rs i ≡ Some r
    → mid ++ range_text r ≡ old ++ 123 ∷ ranges_text (take (i + 1) rs)
put_next old out mid rs i r h e some at =
    ap (λ t. t ++ range_text r) e ∙ append_assoc out (44 ∷ []) (range_text r) ∙ ap (λ t. t ++ 44 ∷ range_text r) h
    ∙ append_assoc old (123 ∷ ranges_text (take i rs)) (44 ∷ range_text r) ∙ ap (λ t. old ++ 123 ∷ t) (sym (ranges_text-next rs i r some at))

-- what stood first still does
pub IsPrefix-more : (old out new : List ℕ) → IsPrefix old out → IsPrefix out new → IsPrefix old new
IsPrefix-more old out new h k = (h.0 ++ k.0, k.1 ∙ ap (λ t. t ++ k.0) h.1 ∙ append_assoc old h.0 k.0)
