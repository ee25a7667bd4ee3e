-- Views that are gone over one after the other.
use Rattle.std.proofs.Common.{◌≡◌, ◌≤◌, ℕ, zero, suc, List, [], ◌∷◌, Some, length, slice_get, refl, sym, ap, subst, arith}
use Rattle.std.specs.Bool.{⊤}
use Rattle.std.specs.List.{AllByRecursion}
use Rattle.std.specs.Map.{values_of}
use Rattle.std.proofs.lemmas.Option.{same_Some}
use Rattle.indexmap.specs.IndexMap.{set_value_at}
use Rattle.og_view.specs.Views.{Seen}
use Rattle.og_session.specs.Following.{ArePaired, IsPaired}
use Rattle.og_session.specs.Names.{Views}

-- that many of the first views are paired with those before, and the others are as they were
abbrev pub AreAhead : (Seen → Seen → Type 0) → ℕ → Views → Views → Type 0
AreAhead R zero old now = now ≡ old
AreAhead R (suc i) [] [] = ⊤
AreAhead R (suc i) (v ∷ old) (w ∷ now) = IsPaired R v w × AreAhead R i old now
AreAhead R (suc i) [] (w ∷ now) = ⊥
AreAhead R (suc i) (v ∷ old) [] = ⊥

module _ (R : Seen → Seen → Type 0) where
  -- one more
  pub ahead-step : (i : ℕ) (old now : Views) (v w : Seen) → AreAhead R i old now → slice_get (values_of now) i ≡ Some v → R v w → AreAhead R (suc i) old (set_value_at now i w)
  ahead-step zero old now v w same here is = subst (λ n. slice_get (values_of n) 0 ≡ Some v → AreAhead R 1 old (set_value_at n 0 w)) (sym same) (first old) here
    where
      first : (old : Views) → slice_get (values_of old) 0 ≡ Some v → AreAhead R 1 old (set_value_at old 0 w)
      first [] here = cc here
      first (x ∷ old) here = ((refl, subst (λ s. R s w) (sym (same_Some x.1 v here)) is), refl)
  ahead-step (suc i) [] [] v w ahead here is = cc here
  ahead-step (suc i) (x ∷ old) (y ∷ now) v w ahead here is = (ahead.0, ahead-step i old now v w ahead.1 here is)
  ahead-step (suc i) [] (y ∷ now) v w ahead here is = absurd ahead
  ahead-step (suc i) (x ∷ old) [] v w ahead here is = absurd ahead

  -- the next view is one of those before
  pub ahead-next : (P : List ℕ × Seen → Type 0) (i : ℕ) (old now : Views) (v : Seen) → AreAhead R i old now → AllByRecursion P old → slice_get (values_of now) i ≡ Some v → (name : List ℕ) × P (name, v)
  ahead-next P zero old now v same all here = first now (subst (AllByRecursion P) (sym same) all) here
    where
      first : (now : Views) → AllByRecursion P now → slice_get (values_of now) 0 ≡ Some v → (name : List ℕ) × P (name, v)
      first [] all here = cc here
      first (x ∷ now) all here = (x.0, subst (λ s. P (x.0, s)) (same_Some x.1 v here) all.0)
  ahead-next P (suc i) [] [] v ahead all here = cc here
  ahead-next P (suc i) (x ∷ old) (y ∷ now) v ahead all here = ahead-next P i old now v ahead.1 all.1 here
  ahead-next P (suc i) [] (y ∷ now) v ahead all here = absurd ahead
  ahead-next P (suc i) (x ∷ old) [] v ahead all here = absurd ahead

  -- there are as many
  pub ahead-length : (i : ℕ) (old now : Views) → AreAhead R i old now → length now ≡ length old
  ahead-length zero old now same = ap length same
  ahead-length (suc i) [] [] ahead = refl
  ahead-length (suc i) (x ∷ old) (y ∷ now) ahead = ap (λ n. suc n) (ahead-length i old now ahead.1)
  ahead-length (suc i) [] (y ∷ now) ahead = absurd ahead
  ahead-length (suc i) (x ∷ old) [] ahead = absurd ahead

  -- all are paired
  pub ahead-last : (i : ℕ) (old now : Views) → AreAhead R i old now → length old ≤ i → ArePaired R old now
  ahead-last zero [] now same all = subst (ArePaired R []) (sym same) tt
  ahead-last zero (x ∷ old) now same all = absurd (omega (arith, all))
  ahead-last (suc i) [] [] ahead all = tt
  ahead-last (suc i) (x ∷ old) (y ∷ now) ahead all = (ahead.0, ahead-last i old now ahead.1 (omega (arith, all)))
  ahead-last (suc i) [] (y ∷ now) ahead all = absurd ahead
  ahead-last (suc i) (x ∷ old) [] ahead all = absurd ahead

  -- and so they are by what holds of those that are as they were too
  pub ahead-each : (S : Seen → Seen → Type 0) → ((v w : Seen) → R v w → S v w) → ((v : Seen) → S v v) → (i : ℕ) (old now : Views) → AreAhead R i old now → ArePaired S old now
  ahead-each S more stays zero old now same = subst (ArePaired S old) (sym same) (all old)
    where
      all : (old : Views) → ArePaired S old old
      all [] = tt
      all (v ∷ old) = ((refl, stays v.1), all old)
  ahead-each S more stays (suc i) [] [] ahead = tt
  ahead-each S more stays (suc i) (x ∷ old) (y ∷ now) ahead = ((ahead.0.0, more x.1 y.1 ahead.0.1), ahead-each S more stays i old now ahead.1)
  ahead-each S more stays (suc i) [] (y ∷ now) ahead = absurd ahead
  ahead-each S more stays (suc i) (x ∷ old) [] ahead = absurd ahead

-- a view that is put back leaves all as they were
pub set-same : (now : Views) (i : ℕ) (v : Seen) → slice_get (values_of now) i ≡ Some v → set_value_at now i v ≡ now
set-same [] i v here = cc here
set-same (x ∷ now) zero v here = λ k. (x.0, sym (same_Some x.1 v here) k) ∷ now
set-same (x ∷ now) (suc i) v here = ap (λ rest. x ∷ rest) (set-same now i v here)
