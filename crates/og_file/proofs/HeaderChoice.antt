-- Each record is a header, or none.
use Rattle.std.proofs.Common.{◌≡◌, ◌⊎◌, ◌≤◌, ◌<◌, ◌^◌, ◌++◌, ◌∷◌, [], ◌∙◌, ℕ, List, Bool, true, false, codes, drop, length, refl, sym, ap, subst, inl, inr}
use Rattle.std.specs.Fmt.{decimal}
use Rattle.std.specs.Str.Parse.{digits_value}
use Rattle.std.proofs.lemmas.Fmt.{decimal_is_IsNumeral}
use Rattle.std.proofs.lemmas.List.{append_cancel_right, same_from_push}
use Rattle.og_value.specs.Limits.{max_columns}
use Rattle.og_value.specs.Words.{is_word, folded}
use Rattle.og_value.specs.declared.kind.Kind.{Kind}
use Rattle.og_value.specs.declared.kind.Kind.TheVariants as k
use Rattle.og_value.specs.declared.schema.Column.{Column}
use Rattle.og_file.specs.Records.{Record}
use Rattle.og_file.specs.SavedFile.{AreColumns, AreSchema, IsColumn, IsCount, IsHeader, kind_word}
use Rattle.og_file.specs.SavedParts.{IsEnd}
use Rattle.og_base.proofs.Choices.{Or, at_most, both, ends_with, less, like, same_text}
use Rattle.og_file.proofs.HeaderLemmas.{as_many}

-- ---- columns

is_true : (b : Bool) → Or (b ≡ true)
is_true true = inl refl
is_true false = inr (λ e. cc e)

-- a word, a colon and the kind
abbrev NamesKind : List ℕ → Kind → Type 0
NamesKind field kind = (word : List ℕ) × (is_word word ≡ true) × (field ≡ word ++ 58 ∷ kind_word kind)

of_kind : (field : List ℕ) (kind : Kind) → Or (NamesKind field kind)
of_kind field kind = by (ends_with (58 ∷ kind_word kind) field)
  where
    at : (word : List ℕ) → field ≡ word ++ 58 ∷ kind_word kind → Or (is_word word ≡ true) → Or (NamesKind field kind)
    at word e (inl is) = inl (word, is, e)
    at word e (inr out) = inr (λ h. out (subst (λ w. is_word w ≡ true) (append_cancel_right h.0 word (58 ∷ kind_word kind) (sym h.2 ∙ e)) h.1))

    by : Or ((word : List ℕ) × (field ≡ word ++ 58 ∷ kind_word kind)) → Or (NamesKind field kind)
    by (inl h) = at h.0 h.1 (is_true (is_word h.0))
    by (inr out) = inr (λ h. out (h.0, h.2))

a_column : (field : List ℕ) → Or ((c : Column) × IsColumn field c)
a_column field = by (of_kind field k.Int) (of_kind field k.Text) (of_kind field k.Date) (of_kind field k.Period)
  where
    column : (kind : Kind) → NamesKind field kind → (c : Column) × IsColumn field c
    column kind h = (record { name = folded h.0; kind = kind }, (h.0, h.1, refl, h.2))

    no_kind : (NamesKind field k.Int → ⊥) → (NamesKind field k.Text → ⊥) → (NamesKind field k.Date → ⊥) → (NamesKind field k.Period → ⊥) → (kind : Kind) → NamesKind field kind → ⊥
    no_kind a b c d k.Int = a
    no_kind a b c d k.Text = b
    no_kind a b c d k.Date = c
    no_kind a b c d k.Period = d

    by : Or (NamesKind field k.Int) → Or (NamesKind field k.Text) → Or (NamesKind field k.Date) → Or (NamesKind field k.Period) → Or ((c : Column) × IsColumn field c)
    by (inl h) b c d = inl (column k.Int h)
    by (inr a) (inl h) c d = inl (column k.Text h)
    by (inr a) (inr b) (inl h) d = inl (column k.Date h)
    by (inr a) (inr b) (inr c) (inl h) = inl (column k.Period h)
    by (inr a) (inr b) (inr c) (inr d) = inr (λ h. no_kind a b c d h.0.kind (h.1.0, h.1.1, h.1.3))

columns : (fs : Record) → Or ((cs : List Column) × AreColumns fs cs)
columns [] = inl ([], tt)
columns (f ∷ fs) = by (a_column f) (columns fs)
  where
    first : ((c : Column) × IsColumn f c → ⊥) → (cs : List Column) → AreColumns (f ∷ fs) cs → ⊥
    first out [] h = h
    first out (c ∷ cs) h = out (c, h.0)

    rest : ((cs : List Column) × AreColumns fs cs → ⊥) → (cs : List Column) → AreColumns (f ∷ fs) cs → ⊥
    rest out [] h = h
    rest out (c ∷ cs) h = out (cs, h.1)

    by : Or ((c : Column) × IsColumn f c) → Or ((cs : List Column) × AreColumns fs cs) → Or ((cs : List Column) × AreColumns (f ∷ fs) cs)
    by (inl c) (inl cs) = inl (c.0 ∷ cs.0, (c.1, cs.1))
    by (inr out) cs = inr (λ h. first out h.0 h.1)
    by (inl c) (inr out) = inr (λ h. rest out h.0 h.1)

pub a_schema : (fs : Record) → Or ((cs : List Column) × AreSchema fs cs)
a_schema fs = by (columns fs) (at_most 1 (length fs)) (at_most (length fs) max_columns)
  where
    by : Or ((cs : List Column) × AreColumns fs cs) → Or (1 ≤ length fs) → Or (length fs ≤ max_columns) → Or ((cs : List Column) × AreSchema fs cs)
    by (inl h) (inl some) (inl most) =
        let same = sym (as_many fs h.0 h.1) in
        inl (h.0, (h.1, record { some = subst (λ n. 1 ≤ n) same some; most = subst (λ n. n ≤ max_columns) same most }))
    by (inr out) some most = inr (λ h. out (h.0, h.1.0))
    by (inl h) (inr out) most = inr (λ h. out (subst (λ n. 1 ≤ n) (as_many fs h.0 h.1.0) h.1.1.some))
    by (inl h) (inl some) (inr out) = inr (λ h. out (subst (λ n. n ≤ max_columns) (as_many fs h.0 h.1.0) h.1.1.most))

-- ---- the number of rows

-- what the digits behind the first five bytes write
abbrev said : List ℕ → ℕ
said field = digits_value 10 (drop 5 field)

said_is : (field : List ℕ) (count : ℕ) → IsCount field count → said field ≡ count
said_is field count is = ap said is.0 ∙ (decimal_is_IsNumeral count is.1).1

a_count : (field : List ℕ) → Or ((count : ℕ) × IsCount field count)
a_count field = by (same_text field (codes "rows:" ++ decimal (said field))) (less (said field) (2 ^ 64))
  where
    by : Or (field ≡ codes "rows:" ++ decimal (said field)) → Or (said field < 2 ^ 64) → Or ((count : ℕ) × IsCount field count)
    by (inl same) (inl fits) = inl (said field, (same, fits))
    by (inr out) fits = inr (λ h. out (h.1.0 ∙ ap (λ n. codes "rows:" ++ decimal n) (sym (said_is field h.0 h.1))))
    by (inl same) (inr out) = inr (λ h. out (subst (λ n. n < 2 ^ 64) (sym (said_is field h.0 h.1)) h.1.1))

pub an_end_record : (fields : Record) → Or ((count : ℕ) × IsEnd fields count)
an_end_record [] = inr (λ h. cc h.1.1)
an_end_record (f ∷ []) = like (λ h. (h.0, (f, refl, h.1))) (λ h. (h.0, subst (λ g. IsCount g h.0) (let same : h.1.0 ≡ f = cc h.1.1 in same) h.1.2)) (a_count f)
an_end_record (f ∷ g ∷ fs) = inr (λ h. cc h.1.1)

-- ---- a last field behind others

last_of : (fs : Record) → (fs ≡ []) ⊎ ((front : Record) × (last : List ℕ) × (fs ≡ front ++ last ∷ []))
last_of [] = inl refl
last_of (f ∷ fs) = by (last_of fs)
  where
    by : (fs ≡ []) ⊎ ((front : Record) × (last : List ℕ) × (fs ≡ front ++ last ∷ [])) → (f ∷ fs ≡ []) ⊎ ((front : Record) × (last : List ℕ) × (f ∷ fs ≡ front ++ last ∷ []))
    by (inl none) = inr ([], f, ap (λ l. f ∷ l) none)
    by (inr h) = inr (f ∷ h.0, h.1, ap (λ l. f ∷ l) h.2)

no_last : (fs front : Record) (last : List ℕ) → fs ≡ [] → fs ≡ front ++ last ∷ [] → ⊥
no_last fs [] last none e = cc (sym none ∙ e)
no_last fs (f ∷ front) last none e = cc (sym none ∙ e)

-- what is so of the fields before the last and of the last, or not so
pub with_last : (is : Record → List ℕ → Type 0) → ((front : Record) (last : List ℕ) → Or (is front last)) → (fs : Record) → Or ((front : Record) × (last : List ℕ) × (fs ≡ front ++ last ∷ []) × is front last)
with_last is decide fs = by (last_of fs)
  where
    at : (front : Record) (last : List ℕ) → fs ≡ front ++ last ∷ [] → Or (is front last) → Or ((front : Record) × (last : List ℕ) × (fs ≡ front ++ last ∷ []) × is front last)
    at front last e (inl so) = inl (front, last, e, so)
    at front last e (inr out) = inr (λ h.
        let same = same_from_push front h.0 last h.1 (sym e ∙ h.2) in
        out (subst (λ l. is front l) (sym same.1) (subst (λ f. is f h.1) (sym same.0) h.3)))

    by : (fs ≡ []) ⊎ ((front : Record) × (last : List ℕ) × (fs ≡ front ++ last ∷ [])) → Or ((front : Record) × (last : List ℕ) × (fs ≡ front ++ last ∷ []) × is front last)
    by (inl none) = inr (λ h. no_last fs h.0 h.1 none h.2)
    by (inr h) = at h.0 h.1 h.2 (decide h.0 h.1)

pub a_header : (fs : Record) → Or ((cs : List Column) × (count : ℕ) × IsHeader fs cs count)
a_header fs =
    like
    (λ h. (h.3.0.0, h.3.1.0, (h.0, h.1, h.2, h.3.0.1, h.3.1.1)))
    (λ h. (h.2.0, h.2.1, h.2.2, ((h.0, h.2.3), (h.1, h.2.4))))
    (with_last (λ front last. ((cs : List Column) × AreSchema front cs) × ((count : ℕ) × IsCount last count)) (λ front last. both (a_schema front) (a_count last)) fs)
