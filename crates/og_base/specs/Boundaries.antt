-- Sets of days as the days at which membership changes: the set begins outside, and changes at each boundary.
use Rattle.std.specs.Prelude.{◌≡◌, ◌⊎◌, ◌++◌, ◌<ℤ◌, ◌≤ℤ◌, ℤ, Bool, true, false, not, int_lt, List, [], ◌∷◌, if◌then◌else◌, ⊤}
use Rattle.std.specs.Ordering.{int_eq}
use Rattle.og_base.specs.Calendar.{after_all}
use Rattle.og_base.specs.Ranges.{Range}

-- the ranges between the boundaries. The last one goes to the end where it has no upper boundary
abbrev pub ranges_of : List ℤ → List Range
ranges_of [] = []
ranges_of (lo ∷ []) = record { lo = lo; hi = after_all } ∷ []
ranges_of (lo ∷ (hi ∷ bs)) = record { lo = lo; hi = hi } ∷ ranges_of bs

-- the boundaries between which the ranges lie
abbrev pub boundaries_of : List Range → List ℤ
boundaries_of [] = []
boundaries_of (r ∷ rs) = if int_lt r.hi after_all then r.lo ∷ (r.hi ∷ boundaries_of rs) else r.lo ∷ boundaries_of rs

-- boundaries that rise strictly, all after the day `low` and before infinity
abbrev pub Rises : ℤ → List ℤ → Type 0
Rises low [] = ⊤
Rises low (b ∷ bs) = (low <ℤ b) × (b <ℤ after_all) × Rises b bs

-- whether the day is inside, where `inside` says so of the days before the first boundary
abbrev pub inside_from : Bool → List ℤ → ℤ → Bool
inside_from inside [] d = inside
inside_from inside (b ∷ bs) d = if int_lt d b then inside else inside_from (not inside) bs d

-- the boundaries that are left after the day, which is at most the first of them
abbrev pub rest_after : ℤ → List ℤ → List ℤ
rest_after day [] = []
rest_after day (b ∷ bs) = if int_eq b day then bs else b ∷ bs

-- whether the day is inside, where `inside` says so of the days before it, and it is at most the first boundary
abbrev pub inside_after : ℤ → Bool → List ℤ → Bool
inside_after day inside [] = inside
inside_after day inside (b ∷ bs) = if int_eq b day then not inside else inside

-- the boundaries so far, and the day where what is inside changes there
abbrev pub turned : Bool → Bool → ℤ → List ℤ → List ℤ
turned true true day bs = bs
turned true false day bs = bs ++ day ∷ []
turned false true day bs = bs ++ day ∷ []
turned false false day bs = bs

-- the day is at most the first boundary
abbrev pub AtMostFirst : ℤ → List ℤ → Type 0
AtMostFirst day [] = ⊤
AtMostFirst day (b ∷ bs) = day ≤ℤ b

-- the day is the first boundary
abbrev pub Begins : ℤ → List ℤ → Type 0
Begins day [] = ⊥
Begins day (b ∷ bs) = b ≡ day

-- it is at most the first boundary of each list
abbrev pub EachAtMost : ℤ → List (List ℤ) → Type 0
EachAtMost day [] = ⊤
EachAtMost day (bs ∷ bss) = AtMostFirst day bs × EachAtMost day bss

-- it is the first boundary of one of the lists
abbrev pub OneBegins : ℤ → List (List ℤ) → Type 0
OneBegins day [] = ⊥
OneBegins day (bs ∷ bss) = Begins day bs ⊎ OneBegins day bss

-- the day is the least boundary of the lists
pub record IsNext (day : ℤ) (bss : List (List ℤ)) : Type 0 where
  pub at_most : EachAtMost day bss
  pub reached : OneBegins day bss

-- no list has a boundary
abbrev pub EachEnded : List (List ℤ) → Type 0
EachEnded [] = ⊤
EachEnded (bs ∷ bss) = (bs ≡ []) × EachEnded bss
