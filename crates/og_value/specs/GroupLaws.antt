-- The laws of the groups of rows.
use Rattle.std.proofs.Common.{◌≡◌, ◌&&◌, ℕ, ℤ, Bool, true, false, int_lt, if◌then◌else◌, List, [], ◌∷◌, refl, sym, ap, ap₂, ◌∙◌, true≢false, arith}
use Rattle.std.proofs.lemmas.Bool.Decides.{Decides-int_eq}
use Rattle.std.proofs.lemmas.Int.{ints}
use Rattle.std.specs.Int.{w64, cast_unsigned}
use Rattle.std.specs.List.{fold, list_all}
use Rattle.og_base.specs.Calendar.{IsRefDay}
use Rattle.og_base.specs.GroupLaws.{share-first, share-second-first, share-second}
use Rattle.og_base.specs.Groups.{share_group}
use Rattle.og_time.specs.Point.{Point, point_at}
use Rattle.og_value.specs.declared.value.Value.{Value}
use Rattle.og_value.specs.declared.value.Value.TheVariants as v
use Rattle.og_value.specs.declared.value.FixedValue.{FixedValue}
use Rattle.og_value.specs.declared.value.FixedValue.TheVariants as f
use Rattle.og_value.specs.Steady.{is_fixed, is_steady_value}
use Rattle.og_value.specs.Values.{value_at, row_at}
use Rattle.og_value.specs.Groups.{mixed, text_mixed, loose_digest, whole_digest, loose_row, whole_row, steady_seeking, other_seeking, steady_standing, other_standing, row_seeking, row_standing}

-- the loose digest, of a value of a day
abbrev loose_of_day : ℕ → FixedValue → ℕ
loose_of_day seed (f.Int n) = mixed seed (cast_unsigned w64 n)
loose_of_day seed (f.Text t) = text_mixed seed t
loose_of_day seed (f.Date a) = mixed seed 1
loose_of_day seed (f.Period p) = mixed seed 2

-- the whole digest, of a value of a day
abbrev whole_of_day : ℕ → FixedValue → ℕ
whole_of_day seed (f.Int n) = mixed seed (cast_unsigned w64 n)
whole_of_day seed (f.Text t) = text_mixed seed t
whole_of_day seed (f.Date a) = mixed seed (cast_unsigned w64 a)
whole_of_day seed (f.Period p) = mixed (mixed seed (cast_unsigned w64 p.start)) (cast_unsigned w64 p.end)

-- the loose digest can be read off the value on any day
loose_on : (seed : ℕ) (v : Value) (d : ℤ) → loose_digest seed v ≡ loose_of_day seed (value_at v d)
loose_on seed (v.Int n) d = refl
loose_on seed (v.Text t) d = refl
loose_on seed (v.Point p) d = refl
loose_on seed (v.Period i) d = refl

-- where both truths hold, each does
both : (a b : Bool) → (a && b) ≡ true → (a ≡ true) × (b ≡ true)
both true b e = (refl, e)
both false b e = absurd (true≢false (sym e))

-- a fixed point is its day on each day
fixed_at : (p : Point) (d : ℤ) → is_fixed p ≡ true → p.low ≡ point_at p d
fixed_at p d e = at (int_lt p.low d) refl (int_lt d p.high) refl
  where
    at : (b : Bool) → int_lt p.low d ≡ b → (c : Bool) → int_lt d p.high ≡ c → p.low ≡ (if b then (if c then d else p.high) else p.low)
    at false k c l = refl
    at true k false l = (Decides-int_eq p.low p.high).0 e
    at true k true l = grind (arith, ints, (Decides-int_eq p.low p.high).0 e, k, l)

-- the whole digest of a steady value can be read off it on any day
whole_on : (seed : ℕ) (v : Value) (d : ℤ) → is_steady_value v ≡ true → whole_digest seed v ≡ whole_of_day seed (value_at v d)
whole_on seed (v.Int n) d e = refl
whole_on seed (v.Text t) d e = refl
whole_on seed (v.Point p) d e = ap (λ a. mixed seed (cast_unsigned w64 a)) (fixed_at p d e)
whole_on seed (v.Period i) d e =
    ap₂ (λ a b. mixed (mixed seed (cast_unsigned w64 a)) (cast_unsigned w64 b)) (fixed_at i.start d (both (is_fixed i.start) (is_fixed i.end) e).0) (fixed_at i.end d (both (is_fixed i.start) (is_fixed i.end) e).1)

-- so can that of a row
loose_row_on : (seed : ℕ) (vs : List Value) (d : ℤ) → loose_row seed vs ≡ fold loose_of_day seed (row_at vs d)
loose_row_on seed [] d = refl
loose_row_on seed (v ∷ vs) d = loose_row_on (loose_digest seed v) vs d ∙ ap (λ s. fold loose_of_day s (row_at vs d)) (loose_on seed v d)

-- and the whole one of a steady row
whole_row_on : (seed : ℕ) (vs : List Value) (d : ℤ) → list_all is_steady_value vs ≡ true → whole_row seed vs ≡ fold whole_of_day seed (row_at vs d)
whole_row_on seed [] d e = refl
whole_row_on seed (v ∷ vs) d e =
    let each = both (is_steady_value v) (list_all is_steady_value vs) e in
    whole_row_on (whole_digest seed v) vs d each.1 ∙ ap (λ s. fold whole_of_day s (row_at vs d)) (whole_on seed v d each.0)

-- values that are equal on some day have one loose digest
pub values_digested : (seed : ℕ) (x y : Value) (d : ℤ) → value_at x d ≡ value_at y d → loose_digest seed x ≡ loose_digest seed y
values_digested seed x y d e = loose_on seed x d ∙ ap (loose_of_day seed) e ∙ sym (loose_on seed y d)

-- and so have rows
loose_same : (seed : ℕ) (xs ys : List Value) (d : ℤ) → row_at xs d ≡ row_at ys d → loose_row seed xs ≡ loose_row seed ys
loose_same seed xs ys d e = loose_row_on seed xs d ∙ ap (fold loose_of_day seed) e ∙ sym (loose_row_on seed ys d)

-- steady rows that are equal have one whole digest
whole_same : (seed : ℕ) (xs ys : List Value) (d : ℤ) → list_all is_steady_value xs ≡ true → list_all is_steady_value ys ≡ true → row_at xs d ≡ row_at ys d
    → whole_row seed xs ≡ whole_row seed ys
whole_same seed xs ys d s t e = whole_row_on seed xs d s ∙ ap (fold whole_of_day seed) e ∙ sym (whole_row_on seed ys d t)

-- by whether each of two rows that are equal on some day is steady, the one stands in a group in which the other seeks
grouped_where : (xs ys : List Value) (d : ℤ) → row_at xs d ≡ row_at ys d → (s t : Bool) → list_all is_steady_value xs ≡ s → list_all is_steady_value ys ≡ t
    → share_group (if s then steady_seeking xs else other_seeking xs) (if t then steady_standing ys else other_standing ys) ≡ true
grouped_where xs ys d e true true s t = share-second (steady_seeking xs) (steady_standing ys) (whole_same 2 xs ys d s t e)
grouped_where xs ys d e true false s t = share-first (steady_seeking xs) (other_standing ys) (loose_same 0 xs ys d e)
grouped_where xs ys d e false true s t = share-second-first (other_seeking xs) (steady_standing ys) (loose_same 1 xs ys d e)
grouped_where xs ys d e false false s t = share-first (other_seeking xs) (other_standing ys) (loose_same 0 xs ys d e)

-- a row stands in a group in which a row seeks that is equal to it on some day
pub rows_grouped : (xs ys : List Value) (d : ℤ) → IsRefDay d → row_at xs d ≡ row_at ys d → share_group (row_seeking xs) (row_standing ys) ≡ true
rows_grouped xs ys d day e = grouped_where xs ys d e (list_all is_steady_value xs) (list_all is_steady_value ys) refl refl
