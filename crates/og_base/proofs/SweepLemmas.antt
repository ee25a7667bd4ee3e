-- What a pass over the boundaries of sets writes, and what the boundaries that it wrote say.
use Rattle.std.proofs.Common.{◌≡◌, ◌++◌, ◌<ℤ◌, ◌≤ℤ◌, ℤ, Bool, true, false, not, List, [], ◌∷◌, refl, sym, ap, ◌∙◌, arith}
use Rattle.std.proofs.lemmas.Int.{ints}
use Rattle.og_base.specs.Calendar.{after_all, before_all}
use Rattle.og_base.specs.Boundaries.{Rises, inside_from, turned, EachEnded, IsNext}
use Rattle.og_base.proofs.BoundaryLemmas.{by_day, int_lt-no, inside_from-before, inside_from-past}
use Rattle.og_base.proofs.SideLemmas.{Side, AreSides, EachRises, rests, insides, said, sides_after, sides_of, said-sides_after, AreSides-after, AreSides-sides_of, said-until, said-at, said-end, said-low, next_after}

-- each boundary is before the day
abbrev pub Below : List ℤ → ℤ → Type 0
Below [] day = Unit {0}
Below (b ∷ bs) day = (b <ℤ day) × Below bs day

-- a later day still has them before it, and the new boundary too
Below-push : (bs : List ℤ) (day x : ℤ) → Below bs day → day <ℤ x → Below (bs ++ day ∷ []) x
Below-push [] day x h l = (l, tt)
Below-push (b ∷ bs) day x h l = (omega (arith, ints), Below-push bs day x h.1 l)

-- rising boundaries rise with a later one behind them
Rises-push : (low : ℤ) (bs : List ℤ) (day : ℤ) → Rises low bs → Below bs day → low <ℤ day → day <ℤ after_all → Rises low (bs ++ day ∷ [])
Rises-push low [] day up h l r = (l, r, tt)
Rises-push low (b ∷ bs) day up h l r = (up.0, up.1, Rises-push b bs day up.2 h.1 h.0 r)

-- one more boundary changes nothing before it
inside_from-push_before : (s : Bool) (bs : List ℤ) (day d : ℤ) → Below bs day → d <ℤ day → inside_from s (bs ++ day ∷ []) d ≡ inside_from s bs d
inside_from-push_before s [] day d h l = inside_from-before s day [] d l
inside_from-push_before s (b ∷ bs) day d h l =
    by_day d b
    (λ _ e. rw e refl)
    (λ _ e. rw e (inside_from-push_before (not s) bs day d h.1 l))

-- from it on it changes what was inside
inside_from-push_past : (s : Bool) (bs : List ℤ) (day d : ℤ) → Below bs day → day ≤ℤ d → inside_from s (bs ++ day ∷ []) d ≡ not (inside_from s bs d)
inside_from-push_past s [] day d h l = inside_from-past s day [] d l
inside_from-push_past s (b ∷ bs) day d h l =
    let e = int_lt-no d b (omega (arith, ints)) in
    rw e (inside_from-push_past (not s) bs day d h.1 l)

-- what was written says what `f` says up to the day `low`, and `s` from there on
pub record IsSwept (f : ℤ → Bool) (low : ℤ) (s : Bool) (out : List ℤ) : Type 0 where
  pub low_in : before_all ≤ℤ low
  pub rises : Rises before_all out
  pub below : (x : ℤ) → low <ℤ x → Below out x
  pub before : (d : ℤ) → d <ℤ low → inside_from false out d ≡ f d
  pub after : (d : ℤ) → low ≤ℤ d → inside_from false out d ≡ s

-- nothing was written, and `f` holds no day before all
pub IsSwept-start : (f : ℤ → Bool) → ((d : ℤ) → d <ℤ before_all → f d ≡ false) → IsSwept f before_all false []
IsSwept-start f none = record {
  low_in = omega (arith, ints);
  rises = tt;
  below = λ x h. tt;
  before = λ d h. sym (none d h);
  after = λ d h. refl;
}

module _ {f : ℤ → Bool} {low : ℤ} {s : Bool} {out : List ℤ} (swept : IsSwept f low s out) (day : ℤ) (l : low <ℤ day) (same : (d : ℤ) → low ≤ℤ d → d <ℤ day → f d ≡ s) where
  -- up to a later day what was written says what `f` says
  until : (d : ℤ) → d <ℤ day → inside_from false out d ≡ f d
  until d h = by_day d low (λ k _. swept.before d k) (λ k _. swept.after d k ∙ sym (same d k h))

  -- on to a later day at which nothing changes
  IsSwept-keep : IsSwept f day s out
  IsSwept-keep = record {
    low_in = omega (arith, ints, swept.low_in);
    rises = swept.rises;
    below = λ x h. swept.below x (omega (arith, ints));
    before = until;
    after = λ d h. swept.after d (omega (arith, ints));
  }

  -- on to a later day, which becomes a boundary
  IsSwept-push : day <ℤ after_all → IsSwept f day (not s) (out ++ day ∷ [])
  IsSwept-push r = record {
    low_in = omega (arith, ints, swept.low_in);
    rises = Rises-push before_all out day swept.rises (swept.below day l) (omega (arith, ints, swept.low_in)) r;
    below = λ x h. Below-push out day x (swept.below day l) h;
    before = λ d h. inside_from-push_before false out day d (swept.below day l) h ∙ until d h;
    after = λ d h. inside_from-push_past false out day d (swept.below day l) h ∙ ap not (swept.after d (omega (arith, ints)));
  }

-- on to a later day, from which on `now` says what is inside
pub IsSwept-turned : (f : ℤ → Bool) (low : ℤ) (s now : Bool) (out : List ℤ) (day : ℤ) → IsSwept f low s out → low <ℤ day → day <ℤ after_all → ((d : ℤ) → low ≤ℤ d → d <ℤ day → f d ≡ s) → IsSwept f day now (turned s now day out)
IsSwept-turned f low true true out day swept l r same = IsSwept-keep swept day l same
IsSwept-turned f low true false out day swept l r same = IsSwept-push swept day l same r
IsSwept-turned f low false true out day swept l r same = IsSwept-push swept day l same r
IsSwept-turned f low false false out day swept l r same = IsSwept-keep swept day l same

-- at the end, what was written says what `f` says
pub IsSwept-end : (f : ℤ → Bool) (low : ℤ) (s : Bool) (out : List ℤ) → IsSwept f low s out → ((d : ℤ) → low ≤ℤ d → f d ≡ s) → (d : ℤ) → inside_from false out d ≡ f d
IsSwept-end f low s out swept same d = by_day d low (λ k _. swept.before d k) (λ k _. swept.after d k ∙ sym (same d k))

-- what is said of the same days is said
IsSwept-same : (f g : ℤ → Bool) (low : ℤ) (s : Bool) (out : List ℤ) → ((d : ℤ) → f d ≡ g d) → IsSwept f low s out → IsSwept g low s out
IsSwept-same f g low s out same swept = record {
  low_in = swept.low_in;
  rises = swept.rises;
  below = swept.below;
  before = λ d h. swept.before d h ∙ same d;
  after = swept.after;
}

-- the sides of a pass that has come to the day `low`, and what was written so far
pub record IsPass (op : List Bool → Bool) (xs : List Side) (now : Bool) (out : List ℤ) : Type 0 where
  pub low : ℤ
  pub sides : AreSides low xs
  pub swept : IsSwept (λ d. op (said xs d)) low now out
  pub state : now ≡ op (insides xs)

-- a pass at its start
pub IsPass-start : (op : List Bool → Bool) (bss : List (List ℤ)) → op (insides (sides_of bss)) ≡ false → EachRises bss → IsPass op (sides_of bss) false []
IsPass-start op bss none up = record {
  low = before_all;
  sides = AreSides-sides_of bss up;
  swept = IsSwept-start (λ d. op (said (sides_of bss) d)) (λ d h. ap op (said-low bss d up h) ∙ none);
  state = sym none;
}

module _ {op : List Bool → Bool} {xs : List Side} {now : Bool} {out : List ℤ} (pass : IsPass op xs now out) where
  -- a pass after the next boundary
  pub IsPass-next : (day : ℤ) → IsNext day (rests xs) → (later : Bool) → later ≡ op (insides (sides_after day xs)) → IsPass op (sides_after day xs) later (turned now later day out)
  IsPass-next day next later e =
      let l = next_after pass.low day xs pass.sides next.reached in
      record {
        low = day;
        sides = AreSides-after pass.low day xs pass.sides next.at_most (omega (arith, ints, l.0));
        swept = IsSwept-same (λ d. op (said xs d)) (λ d. op (said (sides_after day xs) d)) day later (turned now later day out) (λ d. ap op (sym (said-sides_after day xs d)))
            (IsSwept-turned (λ d. op (said xs d)) pass.low now later out day pass.swept l.0 l.1 (λ d k h. ap op (said-until pass.low day xs d pass.sides next.at_most k h) ∙ sym pass.state));
        state = e;
      }

  -- at the next boundary the sets say what the sides have inside after it
  pub IsPass-at : (day : ℤ) → IsNext day (rests xs) → (said xs day ≡ insides (sides_after day xs)) × (day <ℤ after_all)
  IsPass-at day next =
      let l = next_after pass.low day xs pass.sides next.reached in
      (sym (said-sides_after day xs day) ∙ said-at day (sides_after day xs) (AreSides-after pass.low day xs pass.sides next.at_most (omega (arith, ints, l.0))), l.1)

  -- a pass at its end
  pub IsPass-end : EachEnded (rests xs) → (d : ℤ) → inside_from false out d ≡ op (said xs d)
  IsPass-end ended = IsSwept-end (λ d. op (said xs d)) pass.low now out pass.swept (λ d k. ap op (said-end pass.low xs d pass.sides ended k) ∙ sym pass.state)
