-- Each text is the text of the days of a row, or of none.
use Rattle.std.proofs.Common.{◌≡◌, ◌⊎◌, ◌+◌, ◌<◌, ◌≤ℤ◌, ◌<ℤ◌, ◌++◌, ◌∷◌, [], ◌∙◌, ℕ, ℤ, zero, suc, List, length, codes, append_assoc, refl, sym, ap, ap₂, subst, inl, inr, arith}
use Rattle.std.proofs.lemmas.Int.{ints}
use Rattle.std.proofs.lemmas.List.{length-append}
use Rattle.og_base.specs.Bytes.{Lacks, IsCutAt}
use Rattle.og_base.specs.Calendar.{IsDayText, IsRefDayText, IsRefDay, IsExtDay, day_text, first_day, before_all}
use Rattle.og_base.specs.Ranges.{Range, IsRange, IsNormal}
use Rattle.og_base.specs.SetTexts.{lower_text, range_text, ranges_text, set_text, IsEndsOf}
use Rattle.og_base.proofs.DayTexts.{civil_in_range, day_text_is, text_is}
use Rattle.og_base.proofs.ReadTexts.{one_ref_day}
use Rattle.og_base.proofs.SetTexts.{closed, ends_no_bracket, ends_no_comma, ends_of_range, ext_day, lower_text_is, no_lower_text, one_ends, one_range, range_of_ends, same_day_text, same_lower_text}
use Rattle.og_rel.specs.Relations.{HasDays}
use Rattle.og_file.specs.SavedFile.{IsDays, Version, full_text, one, two}
use Rattle.og_base.proofs.Choices.{Or, at_most_z, cut_or_lacks, less_z, like, number, same_text}
use Rattle.og_base.proofs.DayChoice.{a_day, ref_day}
use Rattle.og_file.proofs.RowLemmas.{all_range, all_text}

-- ---- the ends of a range

an_ends : (text : List ℕ) → Or ((lower : List ℕ) × (upper : List ℕ) × (after : List ℕ) × IsEndsOf text lower upper after)
an_ends [] = inr (λ h. cc h.3.joined)
an_ends (x ∷ inside) = by (number x 91) (cut_or_lacks 44 inside)
  where
    has : x ≡ 91 → (lower rest : List ℕ) → IsCutAt 44 inside lower rest → ((upper : List ℕ) × (after : List ℕ) × IsCutAt 41 rest upper after) ⊎ Lacks 41 rest
        → Or ((lower : List ℕ) × (upper : List ℕ) × (after : List ℕ) × IsEndsOf (x ∷ inside) lower upper after)
    has same lower rest cut (inl h) = inl (
      lower,
      h.0,
      h.1,
      record { joined = ap₂ (λ y l. y ∷ l) same (cut.joined ∙ ap (λ l. lower ++ 44 ∷ l) h.2.joined); lower_plain = cut.first; upper_plain = h.2.first },
    )
    has same lower rest cut (inr lacks) = inr (λ h. ends_no_bracket (x ∷ inside) inside lower rest (ap (λ y. y ∷ inside) same) cut lacks h.0 h.1 h.2 h.3)

    by : Or (x ≡ 91) → ((lower : List ℕ) × (rest : List ℕ) × IsCutAt 44 inside lower rest) ⊎ Lacks 44 inside
        → Or ((lower : List ℕ) × (upper : List ℕ) × (after : List ℕ) × IsEndsOf (x ∷ inside) lower upper after)
    by (inl same) (inl cut) = has same cut.0 cut.1 cut.2 (cut_or_lacks 41 cut.1)
    by (inl same) (inr lacks) = inr (λ h. ends_no_comma (x ∷ inside) inside (ap (λ y. y ∷ inside) same) lacks h.0 h.1 h.2 h.3)
    by (inr out) cut = inr (λ h. out (let same : x ≡ 91 = cc h.3.joined in same))

-- the first day has another text as a lower end
a_lower : (text : List ℕ) → Or ((n : ℤ) × IsRefDay n × (text ≡ lower_text n))
a_lower text = by (same_text text (codes "-infinity")) (ref_day text)
  where
    later : (n : ℤ) → (n ≤ℤ first_day → ⊥) → n ≡ first_day → ⊥
    later n out same = out (omega (arith, ints, same))

    is_first : (n : ℤ) → IsRefDay n → n ≤ℤ first_day → n ≡ first_day
    is_first n is low = omega (arith, ints, is.0, low)

    of_day : (text ≡ codes "-infinity" → ⊥) → (n : ℤ) → IsRefDayText text n → Or (n ≤ℤ first_day) → Or ((n : ℤ) × IsRefDay n × (text ≡ lower_text n))
    of_day other n is (inr out) = inl (n, civil_in_range text n is, lower_text_is text n (later n out) is)
    of_day other n is (inl low) =
        inr (λ h. no_lower_text text other (λ m apart same. apart (one_ref_day text m n same is ∙ is_first n (civil_in_range text n is) low)) h.0 h.1 h.2)

    by : Or (text ≡ codes "-infinity") → Or ((n : ℤ) × IsRefDayText text n) → Or ((n : ℤ) × IsRefDay n × (text ≡ lower_text n))
    by (inl same) day = inl (first_day, (omega (arith, ints), omega (arith, ints)), same)
    by (inr other) (inl day) = of_day other day.0 day.1 (at_most_z day.0 first_day)
    by (inr other) (inr out) = inr (λ h. no_lower_text text other (λ m apart same. out (m, same)) h.0 h.1 h.2)

an_upper : (text : List ℕ) → Or ((n : ℤ) × IsExtDay n × (text ≡ day_text n))
an_upper text = like (λ h. (h.0, in_range h.0 h.1, text_is text h.0 (in_range h.0 h.1) h.1)) (λ h. (h.0, subst (λ t. IsDayText t h.0) (sym h.2) (day_text_is h.0 h.1))) (a_day text)
  where
    in_range : (n : ℤ) → IsDayText text n → IsExtDay n
    in_range n (inl h) = (omega (arith, ints, h.1), omega (arith, ints, h.1))
    in_range n (inr (inl h)) = (omega (arith, ints, h.1), omega (arith, ints, h.1))
    in_range n (inr (inr h)) = ext_day n (civil_in_range text n h)

-- ---- a range

abbrev HasRange : List ℕ → Type 0
HasRange text = (r : Range) × (after : List ℕ) × IsRange r × (text ≡ range_text r ++ after)

a_range : (text : List ℕ) → Or (HasRange text)
a_range text = by (an_ends text)
  where
    rising : (lower upper after : List ℕ) → IsEndsOf text lower upper after → (a : (n : ℤ) × IsRefDay n × (lower ≡ lower_text n)) (b : (n : ℤ) × IsExtDay n × (upper ≡ day_text n))
        → Or (a.0 <ℤ b.0) → Or (HasRange text)
    rising lower upper after is a b (inl up) =
        let range : Range = record { lo = a.0; hi = b.0 } in
        inl (range, after, record { lo_in = a.1; hi_in = b.1; some = up }, range_of_ends text lower upper after range is a.2 b.2)
    rising lower upper after is a b (inr out) = inr (λ h.
        let same = one_ends text lower upper after (lower_text h.0.lo) (day_text h.0.hi) h.1 is (ends_of_range text h.0 h.1 h.2 h.3) in
        let low = same_lower_text a.0 h.0.lo a.1 h.2.lo_in (sym a.2 ∙ same.0) in
        let high = same_day_text b.0 h.0.hi b.1 h.2.hi_in (sym b.2 ∙ same.1) in
        out (subst (λ z. a.0 <ℤ z) (sym high) (subst (λ z. z <ℤ h.0.hi) (sym low) h.2.some)))

    ends : (lower upper after : List ℕ) → IsEndsOf text lower upper after → Or ((n : ℤ) × IsRefDay n × (lower ≡ lower_text n)) → Or ((n : ℤ) × IsExtDay n × (upper ≡ day_text n)) → Or (HasRange text)
    ends lower upper after is (inl a) (inl b) = rising lower upper after is a b (less_z a.0 b.0)
    ends lower upper after is (inr out) b =
        inr (λ h. out (h.0.lo, h.2.lo_in, (one_ends text lower upper after (lower_text h.0.lo) (day_text h.0.hi) h.1 is (ends_of_range text h.0 h.1 h.2 h.3)).0))
    ends lower upper after is (inl a) (inr out) =
        inr (λ h. out (h.0.hi, h.2.hi_in, (one_ends text lower upper after (lower_text h.0.lo) (day_text h.0.hi) h.1 is (ends_of_range text h.0 h.1 h.2 h.3)).1))

    by : Or ((lower : List ℕ) × (upper : List ℕ) × (after : List ℕ) × IsEndsOf text lower upper after) → Or (HasRange text)
    by (inl h) = ends h.0 h.1 h.2 h.3 (a_lower h.0) (an_upper h.1)
    by (inr out) = inr (λ h. out (lower_text h.0.lo, day_text h.0.hi, h.1, ends_of_range text h.0 h.1 h.2 h.3))

-- ---- ranges, and the brace behind them

-- one range or more, which begin after the day
abbrev HasRanges : ℤ → List ℕ → Type 0
HasRanges low text = (q : Range) × (qs : List Range) × IsNormal (q ∷ qs) × (low <ℤ q.lo) × (text ≡ closed (q ∷ qs))

-- what stands behind a range that others follow
abbrev behind_range : List Range → List ℕ
behind_range [] = 125 ∷ []
behind_range (p ∷ ps) = 44 ∷ closed (p ∷ ps)

closed_first : (q : Range) (qs : List Range) → closed (q ∷ qs) ≡ range_text q ++ behind_range qs
closed_first q [] = refl
closed_first q (p ∷ ps) = append_assoc (range_text q) (44 ∷ ranges_text (p ∷ ps)) (125 ∷ [])

-- the range at the front is the first, and the others stand behind it
first_is : (text : List ℕ) (r q : Range) (after : List ℕ) (qs : List Range) → IsRange r → IsNormal (q ∷ qs) → text ≡ range_text r ++ after → text ≡ closed (q ∷ qs) → (r ≡ q) × (after ≡ behind_range qs)
first_is text r q after qs is normal e same = one_range r q after (behind_range qs) is normal.0 (sym e ∙ same ∙ closed_first q qs)

-- neither the brace nor more ranges
no_more : (low : ℤ) (text : List ℕ) (r : Range) (after : List ℕ) → IsRange r → text ≡ range_text r ++ after → (after ≡ 125 ∷ [] → ⊥)
    → ((rest : List ℕ) → after ≡ 44 ∷ rest → HasRanges r.hi rest → ⊥) → HasRanges low text → ⊥
no_more low text r after is e brace comma (q, [], normal, up, same) = brace (first_is text r q after [] is normal e same).1
no_more low text r after is e brace comma (q, p ∷ ps, normal, up, same) =
    let both = first_is text r q after (p ∷ ps) is normal e same in
    comma (closed (p ∷ ps)) both.1 (p, ps, normal.2, subst (λ (x : Range). x.hi <ℤ p.lo) (sym both.0) normal.1, refl)

a_comma : (text : List ℕ) → Or ((rest : List ℕ) × (text ≡ 44 ∷ rest))
a_comma [] = inr (λ h. cc h.1)
a_comma (x ∷ xs) = like (λ same. (xs, ap (λ y. y ∷ xs) same)) (λ h. let same : x ≡ 44 = cc h.1 in same) (number x 44)

-- a text of fewer bytes
some_ranges : (n : ℕ) (low : ℤ) (text : List ℕ) → length text < n → Or (HasRanges low text)
some_ranges zero low text fits = absurd (omega (arith, fits))
some_ranges (suc n) low text fits = by (a_range text) (some_ranges n)
  where
    fewer : (a b t : ℕ) → t ≡ a + suc b → t < suc n → b < n
    fewer a b t long fits = omega (arith, long, fits)

    shorter : (r : Range) (after rest : List ℕ) → text ≡ range_text r ++ after → after ≡ 44 ∷ rest → length rest < n
    shorter r after rest e comma =
        fewer (length (range_text r)) (length rest) (length text) (ap length (e ∙ ap (λ l. range_text r ++ l) comma) ∙ length-append (range_text r) (44 ∷ rest)) fits

    behind : (r : Range) (after rest : List ℕ) → IsRange r → text ≡ range_text r ++ after → low <ℤ r.lo → (after ≡ 125 ∷ [] → ⊥) → after ≡ 44 ∷ rest → Or (HasRanges r.hi rest) → Or (HasRanges low text)
    behind r after rest is e up brace comma (inl more) =
        inl (r, more.0 ∷ more.1, (is, more.3, more.2), up, e ∙ ap (λ l. range_text r ++ l) (comma ∙ ap (λ l. 44 ∷ l) more.4) ∙ sym (closed_first r (more.0 ∷ more.1)))
    behind r after rest is e up brace comma (inr out) = inr (no_more low text r after is e brace (λ other e more. out (subst (HasRanges r.hi) (let same : other ≡ rest = cc (sym e ∙ comma) in same) more)))

    follow : (r : Range) (after : List ℕ) → IsRange r → text ≡ range_text r ++ after → low <ℤ r.lo → Or (after ≡ 125 ∷ []) → Or ((rest : List ℕ) × (after ≡ 44 ∷ rest))
        → ((low : ℤ) (text : List ℕ) → length text < n → Or (HasRanges low text)) → Or (HasRanges low text)
    follow r after is e up (inl brace) comma go = inl (r, [], (is, tt, tt), up, e ∙ ap (λ l. range_text r ++ l) brace)
    follow r after is e up (inr brace) (inr out) go = inr (no_more low text r after is e brace (λ rest comma more. out (rest, comma)))
    follow r after is e up (inr brace) (inl comma) go = behind r after comma.0 is e up brace comma.1 (go r.hi comma.0 (shorter r after comma.0 e comma.1))

    first : (r : Range) (after : List ℕ) → IsRange r → text ≡ range_text r ++ after → Or (low <ℤ r.lo) → ((low : ℤ) (text : List ℕ) → length text < n → Or (HasRanges low text)) → Or (HasRanges low text)
    first r after is e (inl up) go = follow r after is e up (same_text after (125 ∷ [])) (a_comma after) go
    first r after is e (inr out) go = inr (λ h. out (subst (λ (x : Range). low <ℤ x.lo) (sym (first_is text r h.0 after h.1 is h.2 e h.4).0) h.3))

    by : Or (HasRange text) → ((low : ℤ) (text : List ℕ) → length text < n → Or (HasRanges low text)) → Or (HasRanges low text)
    by (inl h) go = first h.0 h.1 h.2 h.3 (less_z low h.0.lo) go
    by (inr out) go = inr (λ h. out (h.0, behind_range h.1, h.2.0, h.4 ∙ closed_first h.0 h.1))

-- ---- sets

abbrev HasSet : List ℕ → Type 0
HasSet text = (days : List Range) × HasDays days × (text ≡ set_text days)

a_set : (text : List ℕ) → Or (HasSet text)
a_set [] = inr (λ h. cc h.2)
a_set (x ∷ rest) = by (number x 123) (some_ranges (suc (length rest)) before_all rest (more (length rest)))
  where
    more : (n : ℕ) → n < suc n
    more n = omega arith

    begins : (q : Range) → IsRange q → before_all <ℤ q.lo
    begins q is = omega (arith, ints, is.lo_in.0)

    none : (HasRanges before_all rest → ⊥) → (days : List Range) → HasDays days → x ∷ rest ≡ set_text days → ⊥
    none out [] has e = has.0 refl
    none out (q ∷ qs) has e = out (q, qs, has.1, begins q has.1.0, let same : rest ≡ closed (q ∷ qs) = cc e in same)

    by : Or (x ≡ 123) → Or (HasRanges before_all rest) → Or (HasSet (x ∷ rest))
    by (inl same) (inl h) = inl (h.0 ∷ h.1, ((λ e. cc e), h.2), ap₂ (λ y l. y ∷ l) same h.4)
    by (inr out) h = inr (λ s. out (let same : x ≡ 123 = cc s.2 in same))
    by (inl same) (inr out) = inr (λ s. none out s.0 s.1 s.2)

all_days : HasDays (all_range ∷ [])
all_days = ((λ e. cc e), (record { lo_in = (omega (arith, ints), omega (arith, ints)); hi_in = (omega (arith, ints), omega (arith, ints)); some = omega (arith, ints) }, tt, tt))

pub a_days : (version : Version) (field : List ℕ) → Or ((days : List Range) × IsDays version field days)
a_days one field = like (λ h. (h.0, (h.1, h.2))) (λ h. (h.0, h.1.0, h.1.1)) (a_set field)
a_days two field = by (same_text field (codes "*")) (same_text field full_text) (a_set field)
  where
    full : (field ≡ codes "*" → ⊥) → field ≡ full_text → (days : List Range) → IsDays two field days → ⊥
    full other same days (has, inl is) = other is.0
    full other same days (has, inr is) = is.1 same

    none : (field ≡ codes "*" → ⊥) → (HasSet field → ⊥) → (days : List Range) → IsDays two field days → ⊥
    none other out days (has, inl is) = other is.0
    none other out days (has, inr is) = out (days, has, is.0)

    by : Or (field ≡ codes "*") → Or (field ≡ full_text) → Or (HasSet field) → Or ((days : List Range) × IsDays two field days)
    by (inl star) same set = inl (all_range ∷ [], (all_days, inl (star, all_text)))
    by (inr other) (inl same) set = inr (λ h. full other same h.0 h.1)
    by (inr other) (inr apart) (inl set) = inl (set.0, (set.1, inr (set.2, apart)))
    by (inr other) (inr apart) (inr out) = inr (λ h. none other out h.0 h.1)
