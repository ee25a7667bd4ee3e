-- The fields of a header.
use Rattle.std.proofs.Common.{◌≡◌, ◌≢◌, ◌<◌, ◌≤◌, ◌^◌, ◌∙◌, ◌++◌, [], ◌∷◌, codes, take, min, reverse, ℕ, zero, suc, List, Result, Ok, Err, Some, IfSome, IfNone, length, slice_index, refl, sym, ap, subst, arith}
use Rattle.std.specs.Fmt.{decimal}
use Rattle.std.specs.Result.{result_ok}
use Rattle.std.specs.Str.{IsUtf8}
use Rattle.std.specs.Str.Parse.{AllDigits, ParsesUnsigned}
use Rattle.std.proofs.lemmas.Fmt.{IsAscii-decimal, decimal_digit, first_decimal, decimal-digits_value, parse-decimal}
use Rattle.std.proofs.lemmas.List.{append_cancel_right, length-take, take_min, reverse-append}
use Rattle.std.proofs.lemmas.Str.{IsUtf8-from_ascii}
use Rattle.std.proofs.lemmas.Str.Parse.{numerals_by_value, tells_digits, without_leading_plus_none}
use Rattle.csv.specs.Records.{field_at}
use Rattle.og_value.specs.Limits.{max_columns}
use Rattle.og_value.specs.Schemas.{IsSchema}
use Rattle.og_value.specs.declared.kind.Kind.{Kind}
use Rattle.og_value.specs.declared.kind.Kind.TheVariants as k
use Rattle.og_value.specs.declared.schema.Column.{Column}
use Rattle.og_file.specs.Records.{Record}
use Rattle.og_file.specs.SavedFile.{AreColumns, AreSchema, IsColumn, kind_word}

-- ---- the number of rows

-- no plus sign comes first, and no zero before others
abbrev pub IsPlain : List ℕ → Type 0
IsPlain digits = (slice_index digits 0 ≢ 43) × (slice_index digits 0 ≡ 48 → length digits ≡ 1)

-- a number in decimal is plain
pub decimal-plain : (n : ℕ) → n < 2 ^ 64 → IsPlain (decimal n)
decimal-plain zero less = subst IsPlain (sym (decimal_digit 0 (omega arith))) ((λ e. omega (arith, e)), λ e. refl)
decimal-plain (suc n) less =
    let first = first_decimal (suc n) (omega arith) less in
    ((λ e. omega (arith, first, e)), λ e. absurd (omega (arith, first, e)))

-- a number in decimal is UTF-8
pub decimal-utf8 : (n : ℕ) → n < 2 ^ 64 → IsUtf8 (decimal n)
decimal-utf8 n less = IsUtf8-from_ascii (decimal n) (IsAscii-decimal n less)

-- what is read from plain digits is the number that they write
pub reads : {E : Type 0} (digits : List ℕ) (r : Result ℕ E) → IsPlain digits → ParsesUnsigned 64 10 digits r → IfSome (result_ok r) (λ n. (digits ≡ decimal n) × (n < 2 ^ 64))
reads digits (Ok n) plain parsed =
    let own = numerals_by_value (AllDigits 10) tells_digits in
    let same = without_leading_plus_none digits plain.0 in
    let said = rw same at parsed in
    (sym (decimal-digits_value own digits said.0.0.1 said.0.0.0 plain.1 said.0.1) ∙ sym (ap decimal said.1), rw said.1 said.0.1)
reads digits (Err e) plain parsed = tt

-- what is not read is no number in decimal
pub reads_none : {E : Type 0} (digits : List ℕ) (r : Result ℕ E) → ParsesUnsigned 64 10 digits r → IfNone (result_ok r) ((n : ℕ) → n < 2 ^ 64 → digits ≢ decimal n)
reads_none digits (Ok n) parsed = tt
reads_none digits (Err e) parsed = λ n less is. cc (parse-decimal 64 n digits (Err e) less less is parsed)

-- ---- the columns

-- two ends of one text are alike at each place, counted from the back
from_back : (xs ys us vs : List ℕ) (place : ℕ) → xs ++ us ≡ ys ++ vs → slice_index (reverse us ++ reverse xs) place ≡ slice_index (reverse vs ++ reverse ys) place
from_back xs ys us vs place e = ap (λ l. slice_index l place) (sym (reverse-append xs us) ∙ ap reverse e ∙ reverse-append ys vs)

-- a text ends with one kind at most, and one word is before it
pub same_word : (xs ys : List ℕ) (j l : Kind) → xs ++ 58 ∷ kind_word j ≡ ys ++ 58 ∷ kind_word l → xs ≡ ys
same_word xs ys k.Int k.Int e = append_cancel_right xs ys (codes ":INT") e
same_word xs ys k.Text k.Text e = append_cancel_right xs ys (codes ":TEXT") e
same_word xs ys k.Date k.Date e = append_cancel_right xs ys (codes ":DATE") e
same_word xs ys k.Period k.Period e = append_cancel_right xs ys (codes ":PERIOD") e
same_word xs ys k.Int k.Text e = let apart : 78 ≡ 88 = from_back xs ys (codes ":INT") (codes ":TEXT") 1 e in absurd (omega (arith, apart))
same_word xs ys k.Int k.Date e = let apart : 84 ≡ 69 = from_back xs ys (codes ":INT") (codes ":DATE") 0 e in absurd (omega (arith, apart))
same_word xs ys k.Int k.Period e = let apart : 84 ≡ 68 = from_back xs ys (codes ":INT") (codes ":PERIOD") 0 e in absurd (omega (arith, apart))
same_word xs ys k.Text k.Int e = let apart : 88 ≡ 78 = from_back xs ys (codes ":TEXT") (codes ":INT") 1 e in absurd (omega (arith, apart))
same_word xs ys k.Text k.Date e = let apart : 84 ≡ 69 = from_back xs ys (codes ":TEXT") (codes ":DATE") 0 e in absurd (omega (arith, apart))
same_word xs ys k.Text k.Period e = let apart : 84 ≡ 68 = from_back xs ys (codes ":TEXT") (codes ":PERIOD") 0 e in absurd (omega (arith, apart))
same_word xs ys k.Date k.Int e = let apart : 69 ≡ 84 = from_back xs ys (codes ":DATE") (codes ":INT") 0 e in absurd (omega (arith, apart))
same_word xs ys k.Date k.Text e = let apart : 69 ≡ 84 = from_back xs ys (codes ":DATE") (codes ":TEXT") 0 e in absurd (omega (arith, apart))
same_word xs ys k.Date k.Period e = let apart : 69 ≡ 68 = from_back xs ys (codes ":DATE") (codes ":PERIOD") 0 e in absurd (omega (arith, apart))
same_word xs ys k.Period k.Int e = let apart : 68 ≡ 84 = from_back xs ys (codes ":PERIOD") (codes ":INT") 0 e in absurd (omega (arith, apart))
same_word xs ys k.Period k.Text e = let apart : 68 ≡ 84 = from_back xs ys (codes ":PERIOD") (codes ":TEXT") 0 e in absurd (omega (arith, apart))
same_word xs ys k.Period k.Date e = let apart : 68 ≡ 69 = from_back xs ys (codes ":PERIOD") (codes ":DATE") 0 e in absurd (omega (arith, apart))

-- one column more
pub next_column : (fs : Record) (cs : List Column) (f : List ℕ) (c : Column) → AreColumns fs cs → IsColumn f c → AreColumns (fs ++ f ∷ []) (cs ++ c ∷ [])
next_column [] [] f c are is = (is, tt)
next_column (f1 ∷ fs) (c1 ∷ cs) f c are is = (are.0, next_column fs cs f c are.1 is)
next_column [] (_ ∷ _) f c are is = absurd are
next_column (_ ∷ _) [] f c are is = absurd are

-- the column of a field
pub column_at : (fs : Record) (cs : List Column) (n i : ℕ) (f : List ℕ) → i < n → AreColumns (take n fs) cs → field_at fs i ≡ Some f → (c : Column) × IsColumn f c
unfolding field_at
column_at [] cs n i f less are at = cc at
column_at (f1 ∷ fs) cs zero i f less are at = absurd (omega (arith, less))
column_at (f1 ∷ fs) [] (suc n) i f less are at = absurd are
column_at (f1 ∷ fs) (c1 ∷ cs) (suc n) zero f less are at = let one : f1 ≡ f = cc at in (c1, subst (λ f. IsColumn f c1) one are.0)
column_at (f1 ∷ fs) (c1 ∷ cs) (suc n) (suc i) f less are at = column_at fs cs n i f (omega (arith, less)) are.1 at

-- there are as many columns as fields
pub as_many : (fs : Record) (cs : List Column) → AreColumns fs cs → length cs ≡ length fs
as_many [] [] are = refl
as_many (f ∷ fs) (c ∷ cs) are = ap suc (as_many fs cs are.1)
as_many [] (_ ∷ _) are = absurd are
as_many (_ ∷ _) [] are = absurd are

-- and as many as were taken
pub as_many_taken : (fs : Record) (n count : ℕ) (cs : List Column) → count ≡ min n (length fs) → AreColumns (take n fs) cs → length cs ≡ count
as_many_taken fs n count cs is are = as_many (take n fs) cs are ∙ length-take n fs ∙ sym is

-- no schema has more columns than there may be
pub too_many : (fs : Record) (n count : ℕ) (cs : List Column) → count ≡ min n (length fs) → max_columns < count → ¬ AreSchema (take n fs) cs
too_many fs n count cs is more are = let same = as_many_taken fs n count cs is are.0 in let most = are.1.most in omega (arith, same, most, more)

-- the columns of the first fields are a schema
pub schema_columns : (fs : Record) (n count : ℕ) (cs : List Column) → count ≡ min n (length fs) → 0 < count → count ≤ max_columns → AreColumns (take count fs) cs → IsSchema cs
schema_columns fs n count cs is some most are =
    let same = as_many_taken fs n count cs is (subst (λ taken. AreColumns taken cs) (ap (λ m. take m fs) is ∙ take_min n fs) are) in
    record { some = omega (arith, same, some); most = omega (arith, same, most) }
