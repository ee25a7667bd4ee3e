-- The parts of a condition: all of them hold where it does, and they name no more places than it does.
use Rattle.std.proofs.Common.{◌≡◌, ◌&&◌, ℕ, ℤ, Bool, true, false, List, [], ◌∷◌, refl, sym, ap, ap₂, subst, ◌∙◌}
use Rattle.std.specs.List.{AllByRecursion, flat_map, list_all}
use Rattle.std.proofs.lemmas.List.Folds.{list_all-append}
use Rattle.og_value.specs.declared.value.FixedValue.{FixedValue}
use Rattle.og_query.specs.Conditions.{truth}
use Rattle.og_query.specs.declared.condition.Cond.{Cond}
use Rattle.og_query.specs.declared.condition.Cond.TheVariants.{Or, Not, Compare, Relate, Empty, Contains}
use Rattle.og_query.proofs.Equations.{induction-Cond, truth-And}
use Rattle.og_plan.specs.Parts.{places_of, parts_of}
use Rattle.og_plan.proofs.PartEquations.{places_of-And, parts_of-And, parts_of-Or, parts_of-Not, parts_of-Compare, parts_of-Relate, parts_of-Empty, parts_of-Contains}
use Rattle.og_plan.proofs.MeaningPlaces.{all_first, all_second, all_both}

-- and with a truth that is true
pub and_true : (b : Bool) → (b && true) ≡ b
and_true true = refl
and_true false = refl

module _ (d : ℤ) (row : List FixedValue) where
  -- all parts of the condition hold where it does
  abbrev AreTold : Cond → Type 0
  AreTold cond = list_all (truth d row) (parts_of cond) ≡ truth d row cond

  -- all parts of the conditions hold where all conditions do
  all_parts : (conds : List Cond) → AllByRecursion AreTold conds → list_all (truth d row) (flat_map parts_of conds) ≡ list_all (truth d row) conds
  all_parts [] each = refl
  all_parts (cond ∷ conds) each =
      list_all-append (truth d row) (parts_of cond) (flat_map parts_of conds) ∙ ap₂ (λ x y. x && y) each.0 (all_parts conds each.1)

  -- a condition that is its only part
  alone : (cond : Cond) → parts_of cond ≡ cond ∷ [] → AreTold cond
  alone cond one = ap (list_all (truth d row)) one ∙ and_true (truth d row cond)

  -- all parts of a condition hold where it does
  pub parts_told : (cond : Cond) → list_all (truth d row) (parts_of cond) ≡ truth d row cond
  parts_told =
      induction-Cond AreTold
      (λ conds each. ap (list_all (truth d row)) (parts_of-And conds) ∙ all_parts conds each ∙ sym (truth-And d row conds))
      (λ conds each. alone (Or conds) (parts_of-Or conds))
      (λ cond told. alone (Not cond) (parts_of-Not cond))
      (λ op left right. alone (Compare op left right) (parts_of-Compare op left right))
      (λ pred left right. alone (Relate pred left right) (parts_of-Relate pred left right))
      (λ period. alone (Empty period) (parts_of-Empty period))
      (λ period day. alone (Contains period day) (parts_of-Contains period day))

module _ (P : ℕ → Type 0) where
  -- all places of the condition are such
  abbrev AreSuch : Cond → Type 0
  AreSuch cond = AllByRecursion P (places_of cond)

  -- the parts name no place that is not such
  abbrev HasParts : Cond → Type 0
  HasParts cond = AreSuch cond → AllByRecursion AreSuch (parts_of cond)

  -- the parts of the conditions name no place that is not such
  all_places : (conds : List Cond) → AllByRecursion HasParts conds → AllByRecursion P (flat_map places_of conds) → AllByRecursion AreSuch (flat_map parts_of conds)
  all_places [] each all = tt
  all_places (cond ∷ conds) each all =
      all_both AreSuch (parts_of cond) (flat_map parts_of conds)
      (each.0 (all_first P (places_of cond) (flat_map places_of conds) all))
      (all_places conds each.1 (all_second P (places_of cond) (flat_map places_of conds) all))

  -- a condition that is its only part
  itself : (cond : Cond) → parts_of cond ≡ cond ∷ [] → HasParts cond
  itself cond one all = subst (AllByRecursion AreSuch) (sym one) (all, tt)

  -- what holds of all places of a condition holds of those of its parts
  pub places_of_parts : (cond : Cond) → AllByRecursion P (places_of cond) → AllByRecursion (λ part. AllByRecursion P (places_of part)) (parts_of cond)
  places_of_parts =
      induction-Cond HasParts
      (λ conds each all. subst (AllByRecursion AreSuch) (sym (parts_of-And conds)) (all_places conds each (subst (AllByRecursion P) (places_of-And conds) all)))
      (λ conds each. itself (Or conds) (parts_of-Or conds))
      (λ cond told. itself (Not cond) (parts_of-Not cond))
      (λ op left right. itself (Compare op left right) (parts_of-Compare op left right))
      (λ pred left right. itself (Relate pred left right) (parts_of-Relate pred left right))
      (λ period. itself (Empty period) (parts_of-Empty period))
      (λ period day. itself (Contains period day) (parts_of-Contains period day))
