-- The sides of a pass over the boundaries of sets: what each says of the days that are to come.
use Rattle.std.proofs.Common.{◌≡◌, ◌+◌, ◌<◌, ◌≤◌, ◌<ℤ◌, ◌≤ℤ◌, ℕ, ℤ, Bool, true, false, List, [], ◌∷◌, length, refl, sym, ap, ap₂, ◌∙◌, subst, ⊎_elim, true≢false, arith}
use Rattle.std.specs.Ordering.{int_eq}
use Rattle.std.proofs.lemmas.Bool.{cond_both}
use Rattle.std.proofs.lemmas.Bool.Decides.{Decides-int_eq}
use Rattle.std.proofs.lemmas.Int.{ints}
use Rattle.og_base.specs.Calendar.{after_all, before_all}
use Rattle.og_base.specs.Boundaries.{Rises, inside_from, rest_after, inside_after, AtMostFirst, EachAtMost, EachEnded, Begins, OneBegins}
use Rattle.og_base.proofs.BoundaryLemmas.{inside_from-before, inside_from-past, inside_from-low}

-- a side: what its set says of each day, whether the days up to its next boundary are inside, and the boundaries that are left
pub record Side : Type 0 where
  pub says : ℤ → Bool
  pub inside : Bool
  pub rest : List ℤ

-- from the day `low` on, what is left says what the set says
pub record IsSide (low : ℤ) (x : Side) : Type 0 where
  pub rises : Rises low x.rest
  pub from : (d : ℤ) → low ≤ℤ d → x.says d ≡ inside_from x.inside x.rest d

-- a side from a day on
abbrev pub side_after : ℤ → Side → Side
side_after day x = record { says = x.says; inside = inside_after day x.inside x.rest; rest = rest_after day x.rest }

-- two days are the same, or they are not
by_same_day : {P : Type 0} (a b : ℤ) → (a ≡ b → int_eq a b ≡ true → P) → ((a ≡ b → ⊥) → int_eq a b ≡ false → P) → P
by_same_day {P} a b f g = at (int_eq a b) refl
  where
    at : (t : Bool) → int_eq a b ≡ t → P
    at true e = f ((Decides-int_eq a b).0 e) e
    at false e = g (λ h. true≢false (sym ((Decides-int_eq a b).1 h) ∙ e)) e

-- what is left after a day rises from that day
Rises-rest_after : (low day : ℤ) (bs : List ℤ) → Rises low bs → AtMostFirst day bs → Rises day (rest_after day bs)
Rises-rest_after low day [] up m = tt
Rises-rest_after low day (b ∷ bs) up m =
    by_same_day b day
    (λ same e. rw e (subst (λ z. Rises z bs) same up.2))
    (λ other e. rw e (omega (arith, ints), up.1, up.2))

-- from that day on it says the same
inside_from-rest_after : (s : Bool) (low day : ℤ) (bs : List ℤ) (d : ℤ) → Rises low bs → AtMostFirst day bs → day ≤ℤ d → inside_from s bs d ≡ inside_from (inside_after day s bs) (rest_after day bs) d
inside_from-rest_after s low day [] d up m h = refl
inside_from-rest_after s low day (b ∷ bs) d up m h =
    by_same_day b day
    (λ same e. rw e (inside_from-past s b bs d (omega (arith, ints))))
    (λ other e. rw e refl)

-- before that day nothing changes
inside_from-until : (s : Bool) (day : ℤ) (bs : List ℤ) (d : ℤ) → AtMostFirst day bs → d <ℤ day → inside_from s bs d ≡ s
inside_from-until s day [] d m h = refl
inside_from-until s day (b ∷ bs) d m h = inside_from-before s b bs d (omega (arith, ints))

module _ {low : ℤ} {x : Side} (side : IsSide low x) (day : ℤ) (m : AtMostFirst day x.rest) where
  -- a side after a day
  IsSide-after : low ≤ℤ day → IsSide day (side_after day x)
  IsSide-after l = record {
    rises = Rises-rest_after low day x.rest side.rises m;
    from = λ d h. side.from d (omega (arith, ints)) ∙ inside_from-rest_after x.inside low day x.rest d side.rises m h;
  }

  -- a side before its first boundary
  IsSide-until : (d : ℤ) → low ≤ℤ d → d <ℤ day → x.says d ≡ x.inside
  IsSide-until d l h = side.from d l ∙ inside_from-until x.inside day x.rest d m h

-- a side on the day that it has come to
IsSide-at : (day : ℤ) (x : Side) → IsSide day x → x.says day ≡ x.inside
IsSide-at day x side = side.from day (omega (arith, ints)) ∙ inside_from-low x.inside day x.rest day side.rises (omega (arith, ints))

-- a side that has no boundary left
IsSide-end : (low : ℤ) (x : Side) → IsSide low x → x.rest ≡ [] → (d : ℤ) → low ≤ℤ d → x.says d ≡ x.inside
IsSide-end low x side e d l = side.from d l ∙ ap (λ bs. inside_from x.inside bs d) e

-- the sides of a pass that has come to the day `low`
abbrev pub AreSides : ℤ → List Side → Type 0
AreSides low [] = Unit {0}
AreSides low (x ∷ xs) = IsSide low x × AreSides low xs

-- the boundaries that each side has left
abbrev pub rests : List Side → List (List ℤ)
rests [] = []
rests (x ∷ xs) = x.rest ∷ rests xs

-- what each side has inside
abbrev pub insides : List Side → List Bool
insides [] = []
insides (x ∷ xs) = x.inside ∷ insides xs

-- what each set says of a day
abbrev pub said : List Side → ℤ → List Bool
said [] d = []
said (x ∷ xs) d = x.says d ∷ said xs d

-- the sides from a day on
abbrev pub sides_after : ℤ → List Side → List Side
sides_after day [] = []
sides_after day (x ∷ xs) = side_after day x ∷ sides_after day xs

-- the sets stay the same
pub said-sides_after : (day : ℤ) (xs : List Side) (d : ℤ) → said (sides_after day xs) d ≡ said xs d
said-sides_after day [] d = refl
said-sides_after day (x ∷ xs) d = ap (λ bs. x.says d ∷ bs) (said-sides_after day xs d)

-- the sides after a day
pub AreSides-after : (low day : ℤ) (xs : List Side) → AreSides low xs → EachAtMost day (rests xs) → low ≤ℤ day → AreSides day (sides_after day xs)
AreSides-after low day [] sides m l = tt
AreSides-after low day (x ∷ xs) sides m l = (IsSide-after sides.0 day m.0 l, AreSides-after low day xs sides.1 m.1 l)

-- the sides before the first boundary of all
pub said-until : (low day : ℤ) (xs : List Side) (d : ℤ) → AreSides low xs → EachAtMost day (rests xs) → low ≤ℤ d → d <ℤ day → said xs d ≡ insides xs
said-until low day [] d sides m l h = refl
said-until low day (x ∷ xs) d sides m l h = ap₂ (λ b bs. b ∷ bs) (IsSide-until sides.0 day m.0 d l h) (said-until low day xs d sides.1 m.1 l h)

-- the sides on the day that they have come to
pub said-at : (day : ℤ) (xs : List Side) → AreSides day xs → said xs day ≡ insides xs
said-at day [] sides = refl
said-at day (x ∷ xs) sides = ap₂ (λ b bs. b ∷ bs) (IsSide-at day x sides.0) (said-at day xs sides.1)

-- sides that have no boundary left
pub said-end : (low : ℤ) (xs : List Side) (d : ℤ) → AreSides low xs → EachEnded (rests xs) → low ≤ℤ d → said xs d ≡ insides xs
said-end low [] d sides e l = refl
said-end low (x ∷ xs) d sides e l = ap₂ (λ b bs. b ∷ bs) (IsSide-end low x sides.0 e.0 d l) (said-end low xs d sides.1 e.1 l)

-- a boundary that begins a side lies after the day so far
begins_after : (low day : ℤ) (bs : List ℤ) → Rises low bs → Begins day bs → (low <ℤ day) × (day <ℤ after_all)
begins_after low day [] up e = elim e [ ]
begins_after low day (b ∷ bs) up e = (omega (arith, ints), omega (arith, ints))

-- so does the next boundary of all
pub next_after : (low day : ℤ) (xs : List Side) → AreSides low xs → OneBegins day (rests xs) → (low <ℤ day) × (day <ℤ after_all)
next_after low day [] sides one = elim one [ ]
next_after low day (x ∷ xs) sides one = ⊎_elim (begins_after low day x.rest sides.0.rises) (next_after low day xs sides.1) one

-- sets, before their first boundaries
abbrev pub sides_of : List (List ℤ) → List Side
sides_of [] = []
sides_of (bs ∷ bss) = record { says = inside_from false bs; inside = false; rest = bs } ∷ sides_of bss

-- the boundaries of each set rise
abbrev pub EachRises : List (List ℤ) → Type 0
EachRises [] = Unit {0}
EachRises (bs ∷ bss) = Rises before_all bs × EachRises bss

-- sets at the start of a pass
pub AreSides-sides_of : (bss : List (List ℤ)) → EachRises bss → AreSides before_all (sides_of bss)
AreSides-sides_of [] up = tt
AreSides-sides_of (bs ∷ bss) up = (record { rises = up.0; from = λ d h. refl }, AreSides-sides_of bss up.1)

-- sets hold no day before all
pub said-low : (bss : List (List ℤ)) (d : ℤ) → EachRises bss → d <ℤ before_all → said (sides_of bss) d ≡ insides (sides_of bss)
said-low [] d up h = refl
said-low (bs ∷ bss) d up h = ap₂ (λ c cs. c ∷ cs) (inside_from-low false before_all bs d up.0 (omega (arith, ints))) (said-low bss d up.1 h)

-- how many boundaries are left
abbrev pub total : List (List ℤ) → ℕ
total [] = 0
total (bs ∷ bss) = length bs + total bss

-- the boundaries that are left after a day
abbrev pub rests_after : ℤ → List (List ℤ) → List (List ℤ)
rests_after day [] = []
rests_after day (bs ∷ bss) = rest_after day bs ∷ rests_after day bss

-- no more boundaries are left than before
length-rest_after : (day : ℤ) (bs : List ℤ) → length (rest_after day bs) ≤ length bs
length-rest_after day [] = omega arith
length-rest_after day (b ∷ bs) = cond_both (int_eq b day) bs (b ∷ bs) (λ l. length l ≤ length (b ∷ bs)) (λ _. omega arith) (λ _. omega arith)

total-rests_after : (day : ℤ) (bss : List (List ℤ)) → total (rests_after day bss) ≤ total bss
total-rests_after day [] = omega arith
total-rests_after day (bs ∷ bss) = omega (arith, length-rest_after day bs, total-rests_after day bss)

-- one fewer, where the day begins them
length-rest_after-begins : (day : ℤ) (bs : List ℤ) → Begins day bs → length (rest_after day bs) < length bs
length-rest_after-begins day [] same = elim same [ ]
length-rest_after-begins day (b ∷ bs) same = let e = (Decides-int_eq b day).1 same in rw e (omega arith)

pub fewer_left : (day : ℤ) (bss : List (List ℤ)) → OneBegins day bss → total (rests_after day bss) < total bss
fewer_left day [] one = elim one [ ]
fewer_left day (bs ∷ bss) one =
    ⊎_elim
    (λ h. omega (arith, length-rest_after-begins day bs h, total-rests_after day bss))
    (λ h. omega (arith, length-rest_after day bs, fewer_left day bss h))
    one
