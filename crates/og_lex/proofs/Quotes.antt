-- Quotes, doubled and single.
use Rattle.std.proofs.Common.{◌≡◌, ℕ, zero, suc, ◌+◌, ◌<◌, ◌&&◌, ◌||◌, not, ◌==◌, Bool, true, false, cond, List, [], ◌∷◌, ◌++◌, length, get_or, drop, slice_index, None, Some, refl, ap, ap₂, subst, sym, ◌∙◌, append_assoc, arith}
use Rattle.std.proofs.lemmas.Bool.Decides.{Decides-eqb}
use Rattle.std.proofs.lemmas.Str.{IsUtf8-append, IsUtf8-nil, encode_ascii, IsUtf8-take, IsUtf8-drop, IsCharBoundary-before_ascii, IsCharBoundary-after_ascii}
use Rattle.std.specs.List.{list_any}
use Rattle.std.specs.Str.{IsUtf8}
use Rattle.og_lex.specs.Bytes.{is_quote, doubled, Stops}
use Rattle.og_lex.specs.Front.{closing, single_quotes}
use Rattle.og_lex.proofs.Runs.{take-joined}

-- ---- where a text closes

-- a content with doubled quotes is passed over
pub closing-doubled : (at : ℕ) (content z : List ℕ) → closing false at (doubled content ++ z) ≡ closing false (at + length (doubled content)) z
closing-doubled at [] z = ap (λ k. closing false k z) (omega arith)
closing-doubled at (b ∷ content) z = by (is_quote b) refl (λ k. closing-doubled k content z)
  where
    by : (t : Bool) → is_quote b ≡ t → ((k : ℕ) → closing false k (doubled content ++ z) ≡ closing false (k + length (doubled content)) z)
        → closing false at (cond t (39 ∷ 39 ∷ doubled content) (b ∷ doubled content) ++ z)
        ≡ closing false (at + length (cond t (39 ∷ 39 ∷ doubled content) (b ∷ doubled content))) z
    by true e more = more (at + 1 + 1) ∙ ap (λ k. closing false k z) (omega arith)
    by false e more =
        ap (λ t. cond (t && not (slice_index (doubled content ++ z) 0 == 39)) (Some at) (closing t (at + 1) (doubled content ++ z))) e
        ∙ (more (at + 1) ∙ ap (λ k. closing false k z) (omega arith))

-- a quote that no quote follows closes
closing-quote : (at : ℕ) (z : List ℕ) → Stops is_quote z → closing false at (39 ∷ z) ≡ Some at
closing-quote at [] h = refl
closing-quote at (b ∷ z) h = ap (λ t. cond (not t) (Some at) (closing true (at + 1) (b ∷ z))) h

pub closing-quoted : (at : ℕ) (content rest : List ℕ) → Stops is_quote rest
    → closing false at (doubled content ++ 39 ∷ rest) ≡ Some (at + length (doubled content))
closing-quoted at content rest h = closing-doubled at content (39 ∷ rest) ∙ closing-quote (at + length (doubled content)) rest h

-- what is no truth is false
no_truth : (b : Bool) → ¬ (b ≡ true) → b ≡ false
no_truth true never = absurd (never refl)
no_truth false never = refl

-- numbers that are not equal are not so by the test
pub no_equal : (a b : ℕ) → ¬ (a ≡ b) → (a == b) ≡ false
no_equal a b differ = no_truth (a == b) (λ is. differ ((Decides-eqb a b).0 is))

-- without a quote nothing closes
pub closing-none : (at : ℕ) (z : List ℕ) → ((k : ℕ) → k < length z → ¬ (is_quote (slice_index z k) ≡ true)) → closing false at z ≡ None
closing-none at [] none = refl
closing-none at (b ∷ z) none =
    ap (λ t. cond (t && not (slice_index z 0 == 39)) (Some at) (closing t (at + 1) z)) (no_truth (is_quote b) (none 0 (omega arith)))
    ∙ closing-none (at + 1) z (λ k l. none (suc k) (omega (arith, l)))

-- the first quote closes, where no quote follows it
pub closing-first : (at k : ℕ) (z : List ℕ) → k < length z → ((j : ℕ) → j < k → ¬ (is_quote (slice_index z j) ≡ true)) → is_quote (slice_index z k) ≡ true
    → (slice_index z (suc k) == 39) ≡ false → closing false at z ≡ Some (at + k)
closing-first at k [] l none is next = absurd (omega (arith, l))
closing-first at zero (b ∷ z) l none is next =
    ap (λ t. cond (t && not (slice_index z 0 == 39)) (Some at) (closing t (at + 1) z)) is
    ∙ ap (λ t. cond (not t) (Some at) (closing true (at + 1) z)) next
    ∙ ap Some (omega arith)
closing-first at (suc k) (b ∷ z) l none is next =
    ap (λ t. cond (t && not (slice_index z 0 == 39)) (Some at) (closing t (at + 1) z)) (no_truth (is_quote b) (none 0 (omega arith)))
    ∙ closing-first (at + 1) k z (omega (arith, l)) (λ j m. none (suc j) (omega (arith, m))) is next
    ∙ ap Some (omega arith)

-- where a text closes, its content and what follows it
pub record Closed (at : ℕ) (z : List ℕ) (end : ℕ) : Type 0 where
  pub content : List ℕ
  pub rest : List ℕ
  pub joined : z ≡ doubled content ++ 39 ∷ rest
  pub stops : Stops is_quote rest
  pub place : end ≡ at + length (doubled content)

-- the same, where the second of a doubled pair comes first
abbrev ClosedAfter : Bool → ℕ → List ℕ → ℕ → Type 0
ClosedAfter false at z end = Closed at z end
ClosedAfter true at z end = (b : ℕ) × (rest : List ℕ) × (z ≡ b ∷ rest) × Closed (at + 1) rest end

Stops-quote : (z : List ℕ) → (slice_index z 0 == 39) ≡ false → Stops is_quote z
Stops-quote [] h = tt
Stops-quote (b ∷ z) h = h

doubled-other : (b : ℕ) (z : List ℕ) → is_quote b ≡ false → doubled (b ∷ z) ≡ b ∷ doubled z
doubled-other b z e = ap (λ t. cond t (39 ∷ 39 ∷ doubled z) (b ∷ doubled z)) e

closed-other : (at b : ℕ) (z : List ℕ) (end : ℕ) → is_quote b ≡ false → Closed (at + 1) z end → Closed at (b ∷ z) end
closed-other at b z end e r = record {
  content = b ∷ r.content;
  rest = r.rest;
  joined = ap (λ xs. b ∷ xs) r.joined ∙ ap (λ xs. xs ++ 39 ∷ r.rest) (sym (doubled-other b r.content e));
  stops = r.stops;
  place = rw (doubled-other b r.content e) (omega (arith, r.place));
}

closed-pair : (at b : ℕ) (z : List ℕ) (end : ℕ) → b ≡ 39 → (slice_index z 0 == 39) ≡ true → ClosedAfter true (at + 1) z end → Closed at (b ∷ z) end
closed-pair at b z end e f r =
    let second : r.0 ≡ 39 = (Decides-eqb r.0 39).0 (subst (λ xs. (slice_index xs 0 == 39) ≡ true) r.2 f) in
    record {
      content = 39 ∷ r.3.content;
      rest = r.3.rest;
      joined = ap₂ (λ x xs. x ∷ xs) e (r.2 ∙ ap₂ (λ x xs. x ∷ xs) second r.3.joined);
      stops = r.3.stops;
      place = omega (arith, r.3.place);
    }

closed-here : (at b : ℕ) (z : List ℕ) (end : ℕ) → b ≡ 39 → Stops is_quote z → at ≡ end → Closed at (b ∷ z) end
closed-here at b z end e f same = record {
  content = [];
  rest = z;
  joined = ap (λ x. x ∷ z) e;
  stops = f;
  place = omega (arith, same);
}

closed_after : (second : Bool) (at : ℕ) (z : List ℕ) (end : ℕ) → closing second at z ≡ Some end → ClosedAfter second at z end
closed_after second at [] end h = absurd (cc)
closed_after true at (b ∷ z) end h = (b, z, refl, closed_after false (at + 1) z end h)
closed_after false at (b ∷ z) end h = by (is_quote b) (slice_index z 0 == 39) refl refl h (λ s. closed_after s (at + 1) z end)
  where
    by : (t u : Bool) → is_quote b ≡ t → (slice_index z 0 == 39) ≡ u → cond (t && not u) (Some at) (closing t (at + 1) z) ≡ Some end
        → ((s : Bool) → closing s (at + 1) z ≡ Some end → ClosedAfter s (at + 1) z end) → Closed at (b ∷ z) end
    by false u e f h more = closed-other at b z end e (more false h)
    by true true e f h more = closed-pair at b z end ((Decides-eqb b 39).0 e) f (more true h)
    by true false e f h more = closed-here at b z end ((Decides-eqb b 39).0 e) (Stops-quote z f) (cc)

pub closed_at : (at : ℕ) (z : List ℕ) (end : ℕ) → closing false at z ≡ Some end → Closed at z end
closed_at at z end h = closed_after false at z end h

-- ---- contents

-- the content whose quotes are doubled
pub single_quotes-doubled : (content : List ℕ) → single_quotes false (doubled content) ≡ content
single_quotes-doubled [] = refl
single_quotes-doubled (b ∷ content) = by (is_quote b) refl (single_quotes-doubled content)
  where
    by : (t : Bool) → is_quote b ≡ t → single_quotes false (doubled content) ≡ content
        → single_quotes false (cond t (39 ∷ 39 ∷ doubled content) (b ∷ doubled content)) ≡ b ∷ content
    by true e more = ap₂ (λ x xs. x ∷ xs) (sym ((Decides-eqb b 39).0 e)) more
    by false e more = ap (λ xs. b ∷ xs) (ap (λ t. single_quotes t (doubled content)) e ∙ more)

-- bytes without a quote are left as they are
pub single_quotes-none : (z : List ℕ) → list_any (λ b. b == 39) z ≡ false → single_quotes false z ≡ z
single_quotes-none [] e = refl
single_quotes-none (b ∷ z) e = go (b == 39) e (single_quotes-none z)
  where
    go : (q : Bool) → (q || list_any (λ b. b == 39) z) ≡ false → (list_any (λ b. b == 39) z ≡ false → single_quotes false z ≡ z) → b ∷ single_quotes q z ≡ b ∷ z
    go true h rest = cc
    go false h rest = ap (λ y. b ∷ y) (rest h)

pub doubled-same : (xs ys : List ℕ) → doubled xs ≡ doubled ys → xs ≡ ys
doubled-same xs ys e = sym (single_quotes-doubled xs) ∙ (ap (single_quotes false) e ∙ single_quotes-doubled ys)

-- ---- UTF-8, at quotes

-- the bytes before and after a quote
pub record Sides (xs ys : List ℕ) : Type 0 where
  pub before : IsUtf8 xs
  pub after : IsUtf8 ys

get_or-seam : (xs ys : List ℕ) (b : ℕ) → get_or (xs ++ b ∷ ys) (length xs) 0 ≡ b
get_or-seam [] ys b = refl
get_or-seam (x ∷ xs) ys b = get_or-seam xs ys b

drop-seam : (xs ys : List ℕ) (b : ℕ) → drop (length xs + 1) (xs ++ b ∷ ys) ≡ ys
drop-seam [] ys b = refl
drop-seam (x ∷ xs) ys b =
    let e : length (x ∷ xs) + 1 ≡ suc (length xs + 1) = omega arith in
    ap (λ k. drop k ((x ∷ xs) ++ b ∷ ys)) e ∙ drop-seam xs ys b

length-seam : (xs ys : List ℕ) (b : ℕ) → length xs < length (xs ++ b ∷ ys)
length-seam [] ys b = omega arith
length-seam (x ∷ xs) ys b = omega (arith, length-seam xs ys b)

pub IsUtf8-sides : (xs ys : List ℕ) → IsUtf8 (xs ++ 39 ∷ ys) → Sides xs ys
IsUtf8-sides xs ys u =
    let small : get_or (xs ++ 39 ∷ ys) (length xs) 0 < 128 = omega (arith, get_or-seam xs ys 39) in
    record {
      before = subst IsUtf8 (take-joined xs (39 ∷ ys)) (IsUtf8-take (xs ++ 39 ∷ ys) (length xs) u (IsCharBoundary-before_ascii (xs ++ 39 ∷ ys) (length xs) (length-seam xs ys 39) small));
      after = subst IsUtf8 (drop-seam xs ys 39) (IsUtf8-drop (xs ++ 39 ∷ ys) (length xs + 1) u (IsCharBoundary-after_ascii (xs ++ 39 ∷ ys) (length xs) u (length-seam xs ys 39) small));
    }

quote_utf8 : IsUtf8 (39 ∷ [])
quote_utf8 = (39 ∷ [], (refl, ap (λ xs. xs ++ []) (encode_ascii 39 (omega arith))))

pub IsUtf8-joined : (xs ys : List ℕ) → IsUtf8 xs → IsUtf8 ys → IsUtf8 (xs ++ 39 ∷ ys)
IsUtf8-joined xs ys u v = IsUtf8-append xs (39 ∷ ys) u (IsUtf8-append (39 ∷ []) ys quote_utf8 v)

-- after bytes, a content whose quotes are doubled is UTF-8 as the content is
IsUtf8-doubled_after : (front content : List ℕ) → IsUtf8 (front ++ content) → IsUtf8 (front ++ doubled content)
IsUtf8-doubled_after front [] u = u
IsUtf8-doubled_after front (b ∷ content) u = by (is_quote b) refl (λ xs. IsUtf8-doubled_after xs content)
  where
    by : (t : Bool) → is_quote b ≡ t → ((xs : List ℕ) → IsUtf8 (xs ++ content) → IsUtf8 (xs ++ doubled content))
        → IsUtf8 (front ++ cond t (39 ∷ 39 ∷ doubled content) (b ∷ doubled content))
    by true e more =
        let sides = IsUtf8-sides front content (subst (λ x. IsUtf8 (front ++ x ∷ content)) ((Decides-eqb b 39).0 e) u) in
        IsUtf8-joined front (39 ∷ doubled content) sides.before (IsUtf8-joined [] (doubled content) IsUtf8-nil (more [] sides.after))
    by false e more =
        subst IsUtf8 (append_assoc front (b ∷ []) (doubled content)) (more (front ++ b ∷ []) (subst IsUtf8 (sym (append_assoc front (b ∷ []) content)) u))

IsUtf8-single_after : (front content : List ℕ) → IsUtf8 (front ++ doubled content) → IsUtf8 (front ++ content)
IsUtf8-single_after front [] u = u
IsUtf8-single_after front (b ∷ content) u = by (is_quote b) refl u (λ xs. IsUtf8-single_after xs content)
  where
    by : (t : Bool) → is_quote b ≡ t → IsUtf8 (front ++ cond t (39 ∷ 39 ∷ doubled content) (b ∷ doubled content))
        → ((xs : List ℕ) → IsUtf8 (xs ++ doubled content) → IsUtf8 (xs ++ content)) → IsUtf8 (front ++ b ∷ content)
    by true e v more =
        let sides = IsUtf8-sides front (39 ∷ doubled content) v in
        let after = IsUtf8-sides [] (doubled content) sides.after in
        subst (λ x. IsUtf8 (front ++ x ∷ content)) (sym ((Decides-eqb b 39).0 e)) (IsUtf8-joined front content sides.before (more [] after.after))
    by false e v more =
        subst IsUtf8 (append_assoc front (b ∷ []) content) (more (front ++ b ∷ []) (subst IsUtf8 (sym (append_assoc front (b ∷ []) (doubled content))) v))

pub IsUtf8-doubled : (content : List ℕ) → IsUtf8 content → IsUtf8 (doubled content)
IsUtf8-doubled content u = IsUtf8-doubled_after [] content u

pub IsUtf8-single : (content : List ℕ) → IsUtf8 (doubled content) → IsUtf8 content
IsUtf8-single content u = IsUtf8-single_after [] content u
