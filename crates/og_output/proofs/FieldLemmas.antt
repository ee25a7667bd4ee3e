-- Fields that need no quotes, fields between quotes, and the end of a record.
use Rattle.std.proofs.Common.{◌≡◌, ◌==◌, ◌<◌, ◌≤◌, ◌+◌, ◌++◌, ◌∷◌, ◌∙◌, ◌||◌, ℕ, ℤ, zero, suc, pos, negsuc, Bool, true, false, List, [], length, map, take, FitsSigned, refl, sym, ap, ap₂, subst, arith, append_assoc, append-nil, length-append, if◌then◌else◌, Some, slice_get, Result, Ok, Err, OnOk}
use Rattle.std.specs.Bool.{⊤}
use Rattle.std.specs.List.{list_any}
use Rattle.std.specs.Int.{w64}
use Rattle.std.specs.Fmt.{decimal, signed_decimal}
use Rattle.std.specs.Str.Parse.{AllDigits}
use Rattle.std.proofs.lemmas.Bool.{ne_eqb, eq-eqb}
use Rattle.std.proofs.lemmas.Fmt.{decimal_is_IsNumeral}
use Rattle.std.proofs.lemmas.Str.Parse.{digit_from_value}
use Rattle.csv.specs.Writing.{default_writer, escaped, field_text, fields_text, is_blank, needs_byte, next_sep, row_body, row_text}
use Rattle.csv.proofs.WriteFacts.{row-step}
use Rattle.std.proofs.lemmas.Option.{get_or_from_slice_get, slice_get-map, slice_get_within}
use Rattle.og_base.specs.Bytes.{Lacks}
use Rattle.og_time.specs.Period.{bracketed}

-- no byte is below the dash, as all are that call for quotes
abbrev pub IsPlain : List ℕ → Type 0
IsPlain [] = ⊤
IsPlain (x ∷ xs) = (45 ≤ x) × IsPlain xs

plain_byte : (x : ℕ) → 45 ≤ x → needs_byte default_writer x ≡ false
plain_byte x h =
    rw (ne_eqb x 44 (λ e. omega (arith, e, h)), ne_eqb x 34 (λ e. omega (arith, e, h)), ne_eqb x 13 (λ e. omega (arith, e, h)), ne_eqb x 10 (λ e. omega (arith, e, h))) refl

plain_any : (text : List ℕ) → IsPlain text → list_any (needs_byte default_writer) text ≡ false
plain_any [] h = refl
plain_any (x ∷ xs) h = rw (plain_byte x h.0, plain_any xs h.1) refl

-- such a field is written as it is
pub plain_field : (text : List ℕ) → IsPlain text → field_text default_writer text ≡ text
plain_field text h = rw (plain_any text h) refl

plain_digits : (ds : List ℕ) → AllDigits 10 ds → IsPlain ds
plain_digits [] h = tt
plain_digits (c ∷ cs) h = let k = digit_from_value c h.0 in (omega (arith, k), plain_digits cs h.1)

-- as a number is
pub plain_number : (n : ℤ) → FitsSigned w64 n → IsPlain (signed_decimal n)
plain_number (pos n) fits = plain_digits (decimal n) (decimal_is_IsNumeral n (omega (arith, fits.sfits))).0.1
plain_number (negsuc n) fits = (omega arith, plain_digits (decimal (suc n)) (decimal_is_IsNumeral (suc n) (omega (arith, fits.sfits))).0.1)

-- and a text that lacks all bytes below the dash
pub plain_lacking : (text : List ℕ) → ((b : ℕ) → b < 45 → Lacks b text) → IsPlain text
plain_lacking [] h = tt
plain_lacking (x ∷ xs) h = (not_below, plain_lacking xs (λ b less. (h b less).1))
  where
    not_below : 45 ≤ x
    not_below = omega (arith, λ (less : x < 45). (h x less).0 refl)

any_there : (p : ℕ → Bool) (xs : List ℕ) (x : ℕ) (ys : List ℕ) → p x ≡ true → list_any p (xs ++ x ∷ ys) ≡ true
any_there p [] x ys h = rw h refl
any_there p (z ∷ xs) x ys h = rw (any_there p xs x ys h) (or_true (p z))
  where
    or_true : (a : Bool) → (a || true) ≡ true
    or_true true = refl
    or_true false = refl

unquoted : (text : List ℕ) → IsPlain text → (rest : List ℕ) → escaped default_writer (text ++ rest) ≡ text ++ escaped default_writer rest
unfolding escaped
unquoted [] h rest = refl
unquoted (x ∷ xs) h rest = rw (ne_eqb x 34 (λ e. omega (arith, e, h.0)), unquoted xs h.1 rest) refl

-- a text with a comma between plain ones is written between quotes
comma_field : (first last : List ℕ) → IsPlain first → IsPlain last → field_text default_writer (91 ∷ (first ++ 44 ∷ (last ++ 41 ∷ []))) ≡ 34 ∷ ((91 ∷ (first ++ 44 ∷ (last ++ 41 ∷ []))) ++ 34 ∷ [])
unfolding escaped
comma_field first last h k =
    let comma : list_any (needs_byte default_writer) (first ++ 44 ∷ (last ++ 41 ∷ [])) ≡ true = any_there (needs_byte default_writer) first 44 (last ++ 41 ∷ []) refl in
    let same : escaped default_writer (first ++ 44 ∷ (last ++ 41 ∷ [])) ≡ first ++ 44 ∷ (last ++ 41 ∷ []) =
    unquoted first h (44 ∷ (last ++ 41 ∷ [])) ∙ ap (λ t. first ++ 44 ∷ t) (unquoted last k (41 ∷ [])) in
    rw (comma, same) refl

-- as a period is
pub period_field : (first last : List ℕ) → IsPlain first → IsPlain last → field_text default_writer (bracketed first last) ≡ 34 ∷ (bracketed first last ++ 34 ∷ [])
period_field first last h k =
    let shape : 91 ∷ (first ++ 44 ∷ (last ++ 41 ∷ [])) ≡ bracketed first last =
    sym (ap (λ t. 91 ∷ t) (append_assoc (first ++ 44 ∷ []) last (41 ∷ []) ∙ append_assoc first (44 ∷ []) (last ++ 41 ∷ []))) in
    subst (λ t. field_text default_writer t ≡ 34 ∷ (t ++ 34 ∷ [])) shape (comma_field first last h k)

-- a record shows no byte exactly where it is blank
blank_is : (fields : List (List ℕ)) → (length (row_body default_writer fields) == 0) ≡ is_blank default_writer fields
unfolding is_blank fields_text
blank_is [] = refl
blank_is (one ∷ []) = rw (append-nil (field_text default_writer one)) refl
blank_is (one ∷ two ∷ fields) =
    let size = length-append (field_text default_writer one) (fields_text default_writer (two ∷ fields)) in
    ne_eqb (length (row_body default_writer (one ∷ two ∷ fields))) 0 (λ e. omega (arith, e, size))

added : (a b : ℕ) → (a + b == a) ≡ (b == 0)
added a zero = eq-eqb (a + 0) a (omega arith)
added a (suc b) = ne_eqb (a + suc b) a (λ e. omega (arith, e)) ∙ sym (ne_eqb (suc b) 0 (λ e. cc e))

-- what ends a record, behind its fields
pub record_end : (text : List ℕ) (fields : List (List ℕ)) (was new : List ℕ) (start size : ℕ) → start ≡ length text → was ≡ text ++ row_body default_writer fields → size ≡ length was
    → new ≡ (was ++ (if size == start then 34 ∷ 34 ∷ [] else [])) ++ 10 ∷ []
    → new ≡ text ++ row_text default_writer fields
record_end text fields was new start size at is long done =
    let body = row_body default_writer fields in
    let blank : (size == start) ≡ is_blank default_writer fields =
    ap₂ (λ m n. m == n) (long ∙ ap length is ∙ length-append text body) at ∙ added (length text) (length body) ∙ blank_is fields in
    done ∙ rw (is, blank) (ap (λ t. t ++ 10 ∷ []) (append_assoc text body _) ∙ append_assoc text (body ++ _) (10 ∷ []) ∙ ap (λ t. text ++ t) (append_assoc body _ (10 ∷ [])))

-- what holds of a text holds of the same text
pub on_ok_same : {T E : Type 0} (new a b : List ℕ) (r : Result T E) → a ≡ b → OnOk r (new ≡ a) → OnOk r (new ≡ b)
on_ok_same new a b (Ok v) same h = h ∙ same
on_ok_same new a b (Err e) same h = tt

-- one more field behind those before it
pub field_more : {A : Type 0} (f : A → List ℕ) (xs : List A) (i : ℕ) (x : A) (old was new : List ℕ) → slice_get xs i ≡ Some x
    → was ≡ old ++ row_body default_writer (take i (map f xs)) → new ≡ was ++ (next_sep default_writer i ++ field_text default_writer (f x))
    → new ≡ old ++ row_body default_writer (take (i + 1) (map f xs))
field_more f xs i x old was new is before added' =
    let it : slice_get (map f xs) i ≡ Some (f x) = slice_get-map f xs i ∙ rw is refl in
    let within = slice_get_within (map f xs) i (f x) it in
    let body = row_body default_writer (take i (map f xs)) in
    added' ∙ ap (λ t. t ++ (next_sep default_writer i ++ field_text default_writer (f x))) before
    ∙ append_assoc old body (next_sep default_writer i ++ field_text default_writer (f x))
    ∙ ap (λ t. old ++ t) (ap (λ y. body ++ (next_sep default_writer i ++ field_text default_writer y)) (sym (get_or_from_slice_get (map f xs) i (f x) [] it)) ∙ sym (row-step default_writer (map f xs) i within))

-- two fields
pub two_fields : (old first second one both : List ℕ) → one ≡ old ++ (next_sep default_writer 0 ++ field_text default_writer first)
    → both ≡ one ++ (next_sep default_writer 1 ++ field_text default_writer second) → both ≡ old ++ row_body default_writer (first ∷ second ∷ [])
unfolding fields_text
two_fields old first second one both a b =
    let f = field_text default_writer first in
    let s = field_text default_writer second in
    b ∙ ap (λ t. t ++ (44 ∷ s)) a ∙ append_assoc old f (44 ∷ s) ∙ ap (λ t. old ++ (f ++ (44 ∷ t))) (sym (append-nil s))
