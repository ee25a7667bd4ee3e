-- Numbers and what is written for them.
use Rattle.std.proofs.Common.{◌≡◌, ◌≢◌, ℕ, ℤ, pos, negsuc, neg_ℤ, suc, List, [], ◌∷◌, slice_index, arith, refl, sym, ap, ◌∙◌, FitsSigned, subst, ◌==◌, true, false, Bool, zero, eqb-true, ap₂}
use Rattle.std.proofs.lemmas.Bool.{ne_eqb}
use Rattle.std.proofs.lemmas.Bool.Decides.{Decides-int_eq}
use Rattle.og_base.specs.Calendar.{IsExtDay, day_text}
use Rattle.og_base.specs.declared.range.FixedPeriod.{FixedPeriod}
use Rattle.og_time.specs.Point.{Point, IsPoint, point_text}
use Rattle.og_time.specs.Period.{Period, bracketed, period_text, IsPeriodText}
use Rattle.og_time.proofs.PointWriting.{point_text-fixed}
use Rattle.std.specs.Int.{w64}
use Rattle.std.proofs.lemmas.Int.{ints}
use Rattle.std.specs.Fmt.{decimal, signed_decimal}
use Rattle.std.specs.Str.{IsUtf8, IsAscii}
use Rattle.std.specs.Str.Parse.{IsNumeral, digits_value, signed_digits_value, without_leading_sign}
use Rattle.std.proofs.lemmas.Fmt.{decimal_is_IsNumeral, IsAscii-from_digits, signed_decimal_injective}
use Rattle.std.proofs.lemmas.Str.{IsUtf8-from_ascii, IsUtf8-nil}
use Rattle.std.proofs.lemmas.Str.Parse.{digit_from_value}
use Rattle.og_base.proofs.SetTexts.{same_day_text}
use Rattle.og_time.proofs.PointTexts.{one_point}
use Rattle.og_time.proofs.PeriodTexts.{one_period, IsPeriodText-period_text}
use Rattle.og_value.specs.Cells.{IsIntText, IsCell, IsFixed, fixed_text}
use Rattle.og_value.specs.Order.{rank}
use Rattle.og_value.specs.declared.kind.Kind.{Kind}
use Rattle.og_value.specs.declared.kind.Kind.TheVariants as k
use Rattle.og_value.specs.declared.value.Value.{Value}
use Rattle.og_value.specs.declared.value.Value.TheVariants as v
use Rattle.og_value.specs.declared.value.FixedValue.{FixedValue}
use Rattle.og_value.specs.declared.value.FixedValue.TheVariants as f

-- digits have no sign before them
digits_no_sign : (ds : List ℕ) → IsNumeral 10 ds → (without_leading_sign ds ≡ ds) × (signed_digits_value 10 ds ≡ pos (digits_value 10 ds)) × (slice_index ds 0 ≢ 43)
digits_no_sign [] h = absurd (omega (arith, h.0))
digits_no_sign (c ∷ cs) h =
    let k = digit_from_value c h.1.0 in
    let minus : (c == 45) ≡ false = ne_eqb c 45 (λ e. omega (arith, k, e)) in
    let plus : (c == 43) ≡ false = ne_eqb c 43 (λ e. omega (arith, k, e)) in
    (rw (minus, plus) refl, rw (minus, plus) refl, λ e. omega (arith, k, e))

-- what is written for a number is read as that number
pub int_text-read : (n : ℤ) → FitsSigned w64 n → IsIntText (signed_decimal n) n
int_text-read (pos n) fits =
    let k = decimal_is_IsNumeral n (omega (arith, fits.sfits)) in
    let plain = digits_no_sign (decimal n) k.0 in
    record { no_plus = plain.2; digits = subst (IsNumeral 10) (sym plain.0) k.0; number = sym (plain.1 ∙ ap pos k.1); fits = fits }
int_text-read (negsuc n) fits =
    let k = decimal_is_IsNumeral (suc n) (omega (arith, fits.sfits)) in
    record { no_plus = λ e. omega (arith, e); digits = k.0; number = sym (ap (λ m. neg_ℤ (pos m)) k.1); fits = fits }

-- a number's text is UTF-8
pub int_text-utf8 : (text : List ℕ) (n : ℤ) → IsIntText text n → IsUtf8 text
int_text-utf8 [] n h = IsUtf8-nil
int_text-utf8 (c ∷ cs) n h = IsUtf8-from_ascii (c ∷ cs) (signed_ascii (c == 45) (c == 43) refl refl h.digits)
  where
    signed_ascii : (minus plus : Bool) → (c == 45) ≡ minus → (c == 43) ≡ plus → IsNumeral 10 (without_leading_sign (c ∷ cs)) → IsAscii (c ∷ cs)
    signed_ascii true plus e f d zero = omega (arith, eqb-true c 45 e)
    signed_ascii true plus e f d (suc i) = IsAscii-from_digits cs (rw e at d).1 i
    signed_ascii false true e f d i = absurd (h.no_plus (eqb-true c 43 f))
    signed_ascii false false e f d i = IsAscii-from_digits (c ∷ cs) (rw (e, f) at d).1 i

-- a point that is one day on all days has that day's text
fixed_text-is : (day : ℤ) → point_text (record { low = day; high = day }) ≡ day_text day
fixed_text-is day = point_text-fixed (record { low = day; high = day }) ((Decides-int_eq day day).1 refl)

-- a period between such points has the texts of those days
pub fixed_period_text : (first last : ℤ) (start end : Point) (i : Period) → start ≡ record { low = first; high = first } → end ≡ record { low = last; high = last }
    → i ≡ record { start = start; end = end } → period_text i ≡ bracketed (day_text first) (day_text last)
fixed_period_text first last start end i s t e =
    ap period_text e ∙ ap₂ (λ p q. bracketed (point_text p) (point_text q)) s t ∙ ap₂ bracketed (fixed_text-is first) (fixed_text-is last)

-- a text is a cell of at most one value of the kind
pub one_value : (kind : Kind) (text : List ℕ) (y z : Value) → IsCell kind text y → IsCell kind text z → y ≡ z
one_value k.Int text y z (m, a, e) (n, b, f) = e ∙ ap v.Int (a.number ∙ sym b.number) ∙ sym f
one_value k.Text text y z a b = a.1 ∙ sym b.1
one_value k.Date text y z (p, a, e) (q, b, f) = e ∙ ap v.Point (one_point text p q a b) ∙ sym f
one_value k.Period text y z (i, a, e) (j, b, f) = e ∙ ap v.Period (one_period text i j a b) ∙ sym f

-- the period that has these ends on every day
abbrev pub fixed_period : FixedPeriod → Period
fixed_period p = record { start = record { low = p.start; high = p.start }; end = record { low = p.end; high = p.end } }

-- its text is a text of that period
pub fixed_period-read : (p : FixedPeriod) → IsExtDay p.start → IsExtDay p.end → IsPeriodText (bracketed (day_text p.start) (day_text p.end)) (fixed_period p)
fixed_period-read p a b =
    subst (λ text. IsPeriodText text (fixed_period p)) (fixed_period_text p.start p.end _ _ (fixed_period p) refl refl refl)
    (IsPeriodText-period_text (fixed_period p) (record { start_is = fixed_is p.start a; end_is = fixed_is p.end b }))
  where
    fixed_is : (day : ℤ) → IsExtDay day → IsPoint (record { low = day; high = day })
    fixed_is day h = record { low_in = h; high_in = h; ordered = omega (arith, ints) }

-- two values of one day and one kind have different texts
pub one_fixed : (x y : FixedValue) → IsFixed x → IsFixed y → rank x ≡ rank y → fixed_text x ≡ fixed_text y → x ≡ y
one_fixed (f.Int m) (f.Int n) a b r e = ap f.Int (signed_decimal_injective m n a.sfits b.sfits e)
one_fixed (f.Text s) (f.Text t) a b r e = ap f.Text e
one_fixed (f.Date m) (f.Date n) a b r e = ap f.Date (same_day_text m n a b e)
one_fixed (f.Period p) (f.Period q) a b r e =
    ap (λ (i : Period). f.Period (record { start = i.start.low; end = i.end.low }))
    (one_period _ (fixed_period p) (fixed_period q) (fixed_period-read p a.0 a.1) (subst (λ text. IsPeriodText text (fixed_period q)) (sym e) (fixed_period-read q b.0 b.1)))
one_fixed (f.Int m) (f.Text t) a b r e = absurd (omega (arith, r))
one_fixed (f.Int m) (f.Date n) a b r e = absurd (omega (arith, r))
one_fixed (f.Int m) (f.Period q) a b r e = absurd (omega (arith, r))
one_fixed (f.Text s) (f.Int n) a b r e = absurd (omega (arith, r))
one_fixed (f.Text s) (f.Date n) a b r e = absurd (omega (arith, r))
one_fixed (f.Text s) (f.Period q) a b r e = absurd (omega (arith, r))
one_fixed (f.Date m) (f.Int n) a b r e = absurd (omega (arith, r))
one_fixed (f.Date m) (f.Text t) a b r e = absurd (omega (arith, r))
one_fixed (f.Date m) (f.Period q) a b r e = absurd (omega (arith, r))
one_fixed (f.Period p) (f.Int n) a b r e = absurd (omega (arith, r))
one_fixed (f.Period p) (f.Text t) a b r e = absurd (omega (arith, r))
one_fixed (f.Period p) (f.Date n) a b r e = absurd (omega (arith, r))
