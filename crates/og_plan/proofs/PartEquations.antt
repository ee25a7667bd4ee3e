-- The equations of the folds over expressions and conditions that plans need, one for each variant.
use Rattle.std.proofs.Common.{◌≡◌, List, [], ◌∷◌, map, refl, ap, ◌∙◌}
use Rattle.std.specs.List.{AllByRecursion, flat_map}
use Rattle.std.proofs.lemmas.List.Folds.{flat_map-map}
use Rattle.og_value.specs.declared.term.Cmp.{Cmp}
use Rattle.og_value.specs.declared.term.Func.{Func}
use Rattle.og_value.specs.declared.term.Pred.{Pred}
use Rattle.og_query.specs.declared.expression.Expr.{Expr}
use Rattle.og_query.specs.declared.expression.Expr.TheVariants.{Call}
use Rattle.og_query.specs.declared.condition.Cond.{Cond, fold-Cond}
use Rattle.og_query.specs.declared.condition.Cond.TheVariants.{And, Or, Not, Compare, Relate, Empty, Contains}
use Rattle.og_query.proofs.Equations.{induction-Cond, fold-Call, fold-And, fold-Or, fold-Not, fold-Compare, fold-Relate, fold-Empty, fold-Contains}
use Rattle.og_plan.specs.Parts.{parted_step, parts_of, expr_places_step, expr_places, places_step, places_of}

-- a condition with its parts
abbrev parted : Cond → Cond × List Cond
parted = fold-Cond (Cond × List Cond) parted_step

-- conditions that stand beside their parts are those that were taken apart
all_themselves : (conds : List Cond) → AllByRecursion (λ cond. (parted cond).0 ≡ cond) conds → map (λ c. c.0) (map parted conds) ≡ conds
all_themselves [] each = refl
all_themselves (cond ∷ conds) each = λ i. each.0 i ∷ all_themselves conds each.1 i

-- what stands beside the parts is the condition itself
parted_itself : (cond : Cond) → (parted cond).0 ≡ cond
parted_itself =
    induction-Cond (λ cond. (parted cond).0 ≡ cond)
    (λ conds each. ap (λ c. c.0) (fold-And parted_step conds) ∙ ap And (all_themselves conds each))
    (λ conds each. ap (λ c. c.0) (fold-Or parted_step conds) ∙ ap Or (all_themselves conds each))
    (λ cond itself. ap (λ c. c.0) (fold-Not parted_step cond) ∙ ap Not itself)
    (λ op left right. ap (λ c. c.0) (fold-Compare parted_step op left right))
    (λ pred left right. ap (λ c. c.0) (fold-Relate parted_step pred left right))
    (λ period. ap (λ c. c.0) (fold-Empty parted_step period))
    (λ period day. ap (λ c. c.0) (fold-Contains parted_step period day))

-- all conditions stand beside their parts
all_beside : (conds : List Cond) → map (λ c. c.0) (map parted conds) ≡ conds
all_beside [] = refl
all_beside (cond ∷ conds) = λ i. parted_itself cond i ∷ all_beside conds i

-- the parts of AND
pub parts_of-And : (conds : List Cond) → parts_of (And conds) ≡ flat_map parts_of conds
parts_of-And conds = ap (λ c. c.1) (fold-And parted_step conds) ∙ flat_map-map (λ c. c.1) parted conds

-- of OR
pub parts_of-Or : (conds : List Cond) → parts_of (Or conds) ≡ Or conds ∷ []
parts_of-Or conds = ap (λ c. c.1) (fold-Or parted_step conds) ∙ ap (λ cs. Or cs ∷ []) (all_beside conds)

-- of NOT
pub parts_of-Not : (cond : Cond) → parts_of (Not cond) ≡ Not cond ∷ []
parts_of-Not cond = ap (λ c. c.1) (fold-Not parted_step cond) ∙ ap (λ c. Not c ∷ []) (parted_itself cond)

-- of a comparison
pub parts_of-Compare : (op : Cmp) (left right : Expr) → parts_of (Compare op left right) ≡ Compare op left right ∷ []
parts_of-Compare op left right = ap (λ c. c.1) (fold-Compare parted_step op left right)

-- of a predicate
pub parts_of-Relate : (pred : Pred) (left right : Expr) → parts_of (Relate pred left right) ≡ Relate pred left right ∷ []
parts_of-Relate pred left right = ap (λ c. c.1) (fold-Relate parted_step pred left right)

-- of EMPTY
pub parts_of-Empty : (period : Expr) → parts_of (Empty period) ≡ Empty period ∷ []
parts_of-Empty period = ap (λ c. c.1) (fold-Empty parted_step period)

-- of CONTAINS
pub parts_of-Contains : (period day : Expr) → parts_of (Contains period day) ≡ Contains period day ∷ []
parts_of-Contains period day = ap (λ c. c.1) (fold-Contains parted_step period day)

-- the parts of a condition that is no AND: itself alone
pub parts_of-other : (cond : Cond) → ((conds : List Cond) → ¬ (cond ≡ And conds)) → parts_of cond ≡ cond ∷ []
parts_of-other =
    induction-Cond (λ cond. ((conds : List Cond) → ¬ (cond ≡ And conds)) → parts_of cond ≡ cond ∷ [])
    (λ conds each other. absurd (other conds refl))
    (λ conds each other. parts_of-Or conds)
    (λ cond itself other. parts_of-Not cond)
    (λ op left right other. parts_of-Compare op left right)
    (λ pred left right other. parts_of-Relate pred left right)
    (λ period other. parts_of-Empty period)
    (λ period day other. parts_of-Contains period day)

-- the places of a call
pub expr_places-Call : (func : Func) (args : List Expr) → expr_places (Call func args) ≡ flat_map expr_places args
expr_places-Call func args = fold-Call expr_places_step func args ∙ flat_map-map (λ places. places) expr_places args

-- the places of AND
pub places_of-And : (conds : List Cond) → places_of (And conds) ≡ flat_map places_of conds
places_of-And conds = fold-And places_step conds ∙ flat_map-map (λ places. places) places_of conds

-- of OR
pub places_of-Or : (conds : List Cond) → places_of (Or conds) ≡ flat_map places_of conds
places_of-Or conds = fold-Or places_step conds ∙ flat_map-map (λ places. places) places_of conds
