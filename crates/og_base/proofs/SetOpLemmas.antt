-- The operations on boundaries are the operations on sets of days.
use Rattle.std.proofs.Common.{◌<ℤ◌, ◌≡◌, ℤ, Bool, true, false, ◌&&◌, int_lt, List, [], ◌∷◌, refl, sym, ap, ap₂, ◌∙◌, arith}
use Rattle.std.proofs.lemmas.Int.{ints}
use Rattle.og_base.specs.Calendar.{IsRefDay, first_day, after_all, before_all}
use Rattle.og_base.specs.Ranges.{holds_day}
use Rattle.og_base.specs.Boundaries.{ranges_of, Rises, inside_from}
use Rattle.og_base.specs.SetOps.{op_holds}
use Rattle.og_base.specs.declared.rt_set.sweep.Op.{Op}
use Rattle.og_base.specs.declared.rt_set.sweep.Op.TheVariants.{Union, Meet, Minus}
use Rattle.og_base.proofs.BoundaryLemmas.{int_lt-yes, holds_day-ranges_of, same_boundaries}

-- an operation on a list of two
abbrev pub of_two : (Bool → Bool → Bool) → List Bool → Bool
of_two op [] = false
of_two op (a ∷ []) = false
of_two op (a ∷ (b ∷ cs)) = op a b

-- all of a list of four
abbrev pub of_four : List Bool → Bool
of_four [] = false
of_four (a ∷ []) = false
of_four (a ∷ (b ∷ [])) = false
of_four (a ∷ (b ∷ (c ∷ []))) = false
of_four (a ∷ (b ∷ (c ∷ (d ∷ es)))) = a && b && c && d

-- no operation holds a day that neither side holds
pub op_holds-neither : (op : Op) → op_holds op false false ≡ false
op_holds-neither Union = refl
op_holds-neither Meet = refl
op_holds-neither Minus = refl

-- an operation on parts of sides is that part of the operation
op_holds-and : (op : Op) (a b c : Bool) → (op_holds op a b && c) ≡ op_holds op (a && c) (b && c)
op_holds-and Union true b c = grind arith
op_holds-and Union false b c = refl
op_holds-and Meet true true c = grind arith
op_holds-and Meet true false c = grind arith
op_holds-and Meet false b c = refl
op_holds-and Minus true true c = grind arith
op_holds-and Minus true false c = grind arith
op_holds-and Minus false b c = refl

-- what holds of boundaries inside holds of ranges
pub holds_day-op : (op : Op) (xs ys zs : List ℤ) → Rises before_all xs → Rises before_all ys → Rises before_all zs
    → ((d : ℤ) → inside_from false zs d ≡ op_holds op (inside_from false xs d) (inside_from false ys d))
    → (d : ℤ) → holds_day (ranges_of zs) d ≡ op_holds op (holds_day (ranges_of xs) d) (holds_day (ranges_of ys) d)
holds_day-op op xs ys zs up vp wp same d =
    holds_day-ranges_of before_all zs wp d
    ∙ ap (λ b. b && int_lt d after_all) (same d)
    ∙ op_holds-and op (inside_from false xs d) (inside_from false ys d) (int_lt d after_all)
    ∙ ap₂ (op_holds op) (sym (holds_day-ranges_of before_all xs up d)) (sym (holds_day-ranges_of before_all ys vp d))

-- the set of all reference days holds each of them
pub holds_day-all : (d : ℤ) → IsRefDay d → holds_day (ranges_of (first_day ∷ [])) d ≡ true
holds_day-all d h = grind (arith, ints, h.0, h.1)

-- what is inside is what the ranges hold, on reference days
inside_from-holds_day : (bs : List ℤ) (d : ℤ) → Rises before_all bs → IsRefDay d → inside_from false bs d ≡ holds_day (ranges_of bs) d
inside_from-holds_day bs d up h =
    let e = int_lt-yes d after_all (omega (arith, ints)) in
    sym (holds_day-ranges_of before_all bs up d ∙ rw e (at (inside_from false bs d)))
  where
    at : (b : Bool) → (b && true) ≡ b
    at true = refl
    at false = refl

-- sets that hold the same reference days have the same ranges
pub same_ranges : (xs ys : List ℤ) → Rises before_all xs → Rises before_all ys → ((d : ℤ) → IsRefDay d → holds_day (ranges_of xs) d ≡ holds_day (ranges_of ys) d) → ranges_of xs ≡ ranges_of ys
same_ranges xs ys up vp same =
    ap ranges_of (same_boundaries false before_all xs ys (omega (arith, ints)) up vp
    (λ d h. inside_from-holds_day xs d up h ∙ same d h ∙ sym (inside_from-holds_day ys d vp h)))

-- sets whose boundaries have no day inside in common have no day in common
pub apart : (xs ys : List ℤ) → Rises before_all xs → Rises before_all ys → ((d : ℤ) → false ≡ (inside_from false xs d && inside_from false ys d)) → (d : ℤ) → (holds_day (ranges_of xs) d && holds_day (ranges_of ys) d) ≡ false
apart xs ys up vp none d =
    ap₂ (λ a b. a && b) (holds_day-ranges_of before_all xs up d) (holds_day-ranges_of before_all ys vp d)
    ∙ sym (op_holds-and Meet (inside_from false xs d) (inside_from false ys d) (int_lt d after_all))
    ∙ ap (λ b. b && int_lt d after_all) (sym (none d))

-- sets whose boundaries have a day inside in common have that day in common
pub common : (xs ys : List ℤ) (d : ℤ) → Rises before_all xs → Rises before_all ys → d <ℤ after_all → (inside_from false xs d && inside_from false ys d) ≡ true → (holds_day (ranges_of xs) d && holds_day (ranges_of ys) d) ≡ true
common xs ys d up vp l both =
    let e = int_lt-yes d after_all l in
    ap₂ (λ a b. a && b) (holds_day-ranges_of before_all xs up d) (holds_day-ranges_of before_all ys vp d)
    ∙ sym (op_holds-and Meet (inside_from false xs d) (inside_from false ys d) (int_lt d after_all))
    ∙ ap (λ b. b && int_lt d after_all) both ∙ e

-- what is said of four days at once, on the days before infinity
four-and : (a b c d x : Bool) → ((a && b && c && d) && x) ≡ ((a && x) && (b && x) && (c && x) && (d && x))
four-and false b c d x = refl
four-and true false c d x = grind arith
four-and true true false d x = grind arith
four-and true true true d x = grind arith

-- what holds of the boundaries of four sets holds of their ranges
pub holds_day-four : (ws xs ys zs out : List ℤ) → Rises before_all ws → Rises before_all xs → Rises before_all ys → Rises before_all zs → Rises before_all out
    → ((d : ℤ) → inside_from false out d ≡ (inside_from false ws d && inside_from false xs d && inside_from false ys d && inside_from false zs d))
    → (d : ℤ) → holds_day (ranges_of out) d ≡ (holds_day (ranges_of ws) d && holds_day (ranges_of xs) d && holds_day (ranges_of ys) d && holds_day (ranges_of zs) d)
holds_day-four ws xs ys zs out w x y z o same d =
    let e = holds_day-ranges_of before_all ws w d in
    let f = holds_day-ranges_of before_all xs x d in
    let g = holds_day-ranges_of before_all ys y d in
    let h = holds_day-ranges_of before_all zs z d in
    holds_day-ranges_of before_all out o d
    ∙ ap (λ b. b && int_lt d after_all) (same d)
    ∙ four-and (inside_from false ws d) (inside_from false xs d) (inside_from false ys d) (inside_from false zs d) (int_lt d after_all)
    ∙ rw (e, f, g, h) refl
