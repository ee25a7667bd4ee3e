-- Each reader of names, texts and literals is its rule.
use Rattle.std.proofs.Common.{◌≡◌, ◌||◌, ℕ, ℤ, Bool, true, false, List, Option, Some, None, if◌then◌else◌, refl, sym, ap, ◌∙◌, IsUtf8}
use Rattle.std.specs.Str.{is_utf8}
use Rattle.std.proofs.lemmas.Str.{IsUtf8-from_is_utf8, is_utf8-from_IsUtf8}
use Rattle.std.proofs.lemmas.Option.{same_Some}
use Rattle.og_base.specs.Calendar.{IsDayText}
use Rattle.og_lex.specs.Front.{content_at}
use Rattle.og_lex.specs.Grammar.{HasText}
use Rattle.og_lex.proofs.HasTexts.{content_at-sound, content_at-complete}
use Rattle.og_time.specs.Point.{Point, IsPointText}
use Rattle.og_time.specs.Period.{Period, IsPeriodText}
use Rattle.og_value.specs.Words.{is_word, folded}
use Rattle.og_value.specs.declared.value.Value.{Value}
use Rattle.og_value.specs.declared.value.Value.TheVariants as v
use Rattle.og_syntax.specs.declared.lexeme.Sort.{Sort}
use Rattle.og_syntax.specs.declared.lexeme.Sort.TheVariants as k
use Rattle.og_syntax.specs.declared.lexeme.Lexeme.{Lexeme}
use Rattle.og_syntax.specs.Lexemes.{is, same_sort}
use Rattle.og_syntax.specs.Reading.{got, and_then, given, one}
use Rattle.og_syntax.specs.Spans.{spelling, text_token, IsContent, IsNameOf, name_of, IsTextOf, text_of, IsDayValue, day_value_from, IsPointValue, point_value_from, IsPeriodValue, period_value_from, IsOfForm, of_form}
use Rattle.og_syntax.specs.TextValues.{day_of, point_of, period_of}
use Rattle.og_syntax.specs.Reader.{name, quoted, text, day_lit, point_lit, period_lit, lit}
use Rattle.og_syntax.specs.Grammar.{IsName, IsQuoted, IsText, IsDayLit, IsPointLit, IsPeriodLit, IsLit}
use Rattle.og_syntax.specs.Follow.{anything}
use Rattle.og_syntax.proofs.TextValues.{day_of-sound, day_of-complete, point_of-sound, point_of-complete, period_of-sound, period_of-complete}
use Rattle.og_syntax.proofs.Exact.{Exact, exact-given, exact-one, exact-then, exact-after, exact-map, exact-loose, exact-choose}

-- what is found is the name of the word
name_right : (word x : List ℕ) → name_of word ≡ Some x → IsNameOf word x
name_right word x e = go (is_word word) refl e
  where
    go : (b : Bool) → is_word word ≡ b → (if b then Some (folded word) else None) ≡ Some x → IsNameOf word x
    go true h e = (h, sym (same_Some (folded word) x e))
    go false h e = cc

-- the name of a word is found
name_left : (word x : List ℕ) → IsNameOf word x → name_of word ≡ Some x
name_left word x h = ap (λ b. if b then Some (folded word) else None) h.0 ∙ ap Some (sym h.1)

-- name
pub exact-name : (script : List ℕ) → Exact false (is k.Name) anything (name script) (IsName script)
unfolding name IsName same_sort
exact-name script =
    exact-loose
    (exact-then (exact-one k.Name) (λ t. exact-given (name_of (spelling script t)) (IsNameOf (spelling script t)) (name_right (spelling script t)) (name_left (spelling script t))))
    refl refl

-- what stands between quotes
pub exact-quoted : (script : List ℕ) → Exact false (is k.Quoted) anything (quoted script) (IsQuoted script)
unfolding quoted IsQuoted same_sort
exact-quoted script =
    exact-loose
    (exact-then (exact-one k.Quoted) (λ t. exact-given (content_at script (text_token t)) (IsContent script t) (content_at-sound script (text_token t)) (content_at-complete script (text_token t))))
    refl refl

-- what is found is the text of the bytes
text_right : (bytes x : List ℕ) → text_of bytes ≡ Some x → IsTextOf bytes x
text_right bytes x e = go (is_utf8 bytes) refl e
  where
    go : (b : Bool) → is_utf8 bytes ≡ b → (if b then Some bytes else None) ≡ Some x → IsTextOf bytes x
    go true h e = (IsUtf8-from_is_utf8 bytes h, sym (same_Some bytes x e))
    go false h e = cc

-- the text of bytes is found
text_left : (bytes x : List ℕ) → IsTextOf bytes x → text_of bytes ≡ Some x
text_left bytes x h = ap (λ b. if b then Some bytes else None) (is_utf8-from_IsUtf8 bytes h.0) ∙ ap Some (sym h.1)

-- text
pub exact-text : (script : List ℕ) → Exact false (is k.Quoted) anything (text script) (IsText script)
unfolding text IsText same_sort
exact-text script = exact-loose (exact-then (exact-quoted script) (λ z. exact-given (text_of z) (IsTextOf z) (text_right z) (text_left z))) refl refl

-- ---- quoted texts of a form

-- what is found is of the form
form_right : (strict : Bool) (R : List ℕ → Value → Type 0) (z : List ℕ) (o : Option Value) (x : Value) → (o ≡ Some x → R z x) → of_form strict o ≡ Some x → IsOfForm strict R z x
form_right true R z o x right e = right e
form_right false R z o x right e = sym (same_Some _ x e)

-- what is of the form is found
form_left : (strict : Bool) (R : List ℕ → Value → Type 0) (z : List ℕ) (o : Option Value) (x : Value) → (R z x → o ≡ Some x) → IsOfForm strict R z x → of_form strict o ≡ Some x
form_left true R z o x left h = left h
form_left false R z o x left h = ap Some (sym h)

-- what is found is the day's point
day_right : (z : List ℕ) (x : Value) → day_value_from (day_of z) ≡ Some x → IsDayValue z x
day_right z x e = go (day_of z) refl e
  where
    go : (o : Option ℤ) → day_of z ≡ o → day_value_from o ≡ Some x → IsDayValue z x
    go (Some n) h e = (n, day_of-sound z n h, sym (same_Some _ x e))
    go None h e = cc

-- the point of a day text is found
day_left : (z : List ℕ) (x : Value) → IsDayValue z x → day_value_from (day_of z) ≡ Some x
day_left z x h = ap day_value_from (day_of-complete z h.0 h.1) ∙ ap Some (sym h.2)

-- what is found is the text's point
point_right : (z : List ℕ) (x : Value) → point_value_from (point_of z) ≡ Some x → IsPointValue z x
point_right z x e = go (point_of z) refl e
  where
    go : (o : Option Point) → point_of z ≡ o → point_value_from o ≡ Some x → IsPointValue z x
    go (Some p) h e = (p, point_of-sound z p h, sym (same_Some _ x e))
    go None h e = cc

-- the point of a point text is found
point_left : (z : List ℕ) (x : Value) → IsPointValue z x → point_value_from (point_of z) ≡ Some x
point_left z x h = ap point_value_from (point_of-complete z h.0 h.1) ∙ ap Some (sym h.2)

-- what is found is the text's period
period_right : (z : List ℕ) (x : Value) → period_value_from (period_of z) ≡ Some x → IsPeriodValue z x
period_right z x e = go (period_of z) refl e
  where
    go : (o : Option Period) → period_of z ≡ o → period_value_from o ≡ Some x → IsPeriodValue z x
    go (Some i) h e = (i, period_of-sound z i h, sym (same_Some _ x e))
    go None h e = cc

-- the period of a period text is found
period_left : (z : List ℕ) (x : Value) → IsPeriodValue z x → period_value_from (period_of z) ≡ Some x
period_left z x h = ap period_value_from (period_of-complete z h.0 h.1) ∙ ap Some (sym h.2)

-- DATE text
pub exact-day_lit : (script : List ℕ) (strict : Bool) → Exact false (is k.Date) anything (day_lit script strict) (IsDayLit script strict)
unfolding day_lit IsDayLit same_sort
exact-day_lit script strict =
    exact-after k.Date refl (exact-then (exact-quoted script) (λ z. exact-given (of_form strict (day_value_from (day_of z))) (IsOfForm strict IsDayValue z)
    (λ x. form_right strict IsDayValue z _ x (day_right z x)) (λ x. form_left strict IsDayValue z _ x (day_left z x))))

-- ONGOING text
pub exact-point_lit : (script : List ℕ) (strict : Bool) → Exact false (is k.Ongoing) anything (point_lit script strict) (IsPointLit script strict)
unfolding point_lit IsPointLit same_sort
exact-point_lit script strict =
    exact-after k.Ongoing refl (exact-then (exact-quoted script) (λ z. exact-given (of_form strict (point_value_from (point_of z))) (IsOfForm strict IsPointValue z)
    (λ x. form_right strict IsPointValue z _ x (point_right z x)) (λ x. form_left strict IsPointValue z _ x (point_left z x))))

-- PERIOD text
pub exact-period_lit : (script : List ℕ) (strict : Bool) → Exact false (is k.Period) anything (period_lit script strict) (IsPeriodLit script strict)
unfolding period_lit IsPeriodLit same_sort
exact-period_lit script strict =
    exact-after k.Period refl (exact-then (exact-quoted script) (λ z. exact-given (of_form strict (period_value_from (period_of z))) (IsOfForm strict IsPeriodValue z)
    (λ x. form_right strict IsPeriodValue z _ x (period_right z x)) (λ x. form_left strict IsPeriodValue z _ x (period_left z x))))

-- what a literal begins with
abbrev pub lit_begins : Sort → Bool
lit_begins a = is k.Number a || is k.Quoted a || is k.Date a || is k.Ongoing a || is k.Period a

-- lit
pub exact-lit : (script : List ℕ) (strict : Bool) → Exact false lit_begins anything (lit script strict) (IsLit script strict)
unfolding lit IsLit same_sort
exact-lit script strict =
    exact-loose
    (exact-choose (is k.Number) (exact-map (exact-one k.Number) (λ t. v.Int t.number))
    (exact-choose (is k.Quoted) (exact-map (exact-text script) v.Text)
    (exact-choose (is k.Date) (exact-day_lit script strict)
    (exact-choose (is k.Ongoing) (exact-point_lit script strict) (exact-period_lit script strict) refl refl) refl refl) refl refl) refl refl)
    refl refl

-- ---- what stands between quotes

-- the content of a text is read
pub quoted_read : (script : List ℕ) (ts : List Lexeme) (t : Lexeme) (z : List ℕ) (rest : List Lexeme) → one k.Quoted ts ≡ got t rest → IsContent script t z → quoted script ts ≡ got z rest
unfolding quoted
quoted_read script ts t z rest e is =
    ap (λ r. and_then r (λ t. given (content_at script (text_token t)))) e ∙ ap (λ o. given o rest) (content_at-complete script (text_token t) z is)

-- other bytes are not
pub no_quoted_read : (script : List ℕ) (ts : List Lexeme) (t : Lexeme) (rest : List Lexeme) → one k.Quoted ts ≡ got t rest → (HasText script (text_token t) → ⊥) → quoted script ts ≡ None
unfolding quoted
no_quoted_read script ts t rest e bad = ap (λ r. and_then r (λ t. given (content_at script (text_token t)))) e ∙ go (content_at script (text_token t)) refl
  where
    go : (o : Option (List ℕ)) → content_at script (text_token t) ≡ o → given o rest ≡ None
    go (Some z) h = absurd (bad (z, content_at-sound script (text_token t) z h))
    go None h = refl

-- ---- the text of what stands between quotes

-- bytes in UTF-8 are read as a text
pub text_read : (script : List ℕ) (ts : List Lexeme) (z x : List ℕ) (rest : List Lexeme) → quoted script ts ≡ got z rest → x ≡ z → IsUtf8 z → text script ts ≡ got x rest
unfolding text
text_read script ts z x rest e same utf8 =
    ap (λ r. and_then r (λ z. given (text_of z))) e ∙ ap (λ o. given o rest) (text_left z x (utf8, same))

-- other bytes are not
pub no_text_read : (script : List ℕ) (ts : List Lexeme) (z : List ℕ) (rest : List Lexeme) → quoted script ts ≡ got z rest → (IsUtf8 z → ⊥) → text script ts ≡ None
unfolding text
no_text_read script ts z rest e bad = ap (λ r. and_then r (λ z. given (text_of z))) e ∙ go (text_of z) refl
  where
    go : (o : Option (List ℕ)) → text_of z ≡ o → given o rest ≡ None
    go (Some x) h = absurd (bad (text_right z x h).0)
    go None h = refl

-- ---- the values of quoted texts, by what the reading functions answer

-- nothing is what is found where there is none
none_given : (o : Option Value) → ((x : Value) → o ≡ Some x → ⊥) → None ≡ o
none_given (Some x) h = absurd (h x refl)
none_given None h = refl

-- a day that was read
pub day_given : (z : List ℕ) (n : ℤ) (x : Value) → IsDayText z n → x ≡ v.Point (record { low = n; high = n }) → Some x ≡ day_value_from (day_of z)
day_given z n x is e = sym (day_left z x (n, is, e))

-- no day was read
pub no_day_given : (z : List ℕ) → ((n : ℤ) → IsDayText z n → ⊥) → None ≡ day_value_from (day_of z)
no_day_given z h = none_given _ (λ x e. let a = day_right z x e in h a.0 a.1)

-- a point that was read
pub point_given : (z : List ℕ) (p : Point) (x : Value) → IsPointText z p → x ≡ v.Point p → Some x ≡ point_value_from (point_of z)
point_given z p x is e = sym (point_left z x (p, is, e))

-- no point was read
pub no_point_given : (z : List ℕ) → ((p : Point) → IsPointText z p → ⊥) → None ≡ point_value_from (point_of z)
no_point_given z h = none_given _ (λ x e. let a = point_right z x e in h a.0 a.1)

-- a period that was read
pub period_given : (z : List ℕ) (i : Period) (x : Value) → IsPeriodText z i → x ≡ v.Period i → Some x ≡ period_value_from (period_of z)
period_given z i x is e = sym (period_left z x (i, is, e))

-- no period was read
pub no_period_given : (z : List ℕ) → ((i : Period) → IsPeriodText z i → ⊥) → None ≡ period_value_from (period_of z)
no_period_given z h = none_given _ (λ x e. let a = period_right z x e in h a.0 a.1)
