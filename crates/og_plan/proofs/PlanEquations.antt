-- The equations of folds over plans, one for each variant, and the induction over plans.
use Rattle.std.proofs.Common.{◌≡◌, ℕ, List, ap, sym, subst, ◌∙◌}
use Rattle.og_value.specs.declared.schema.Column.{Column as OneColumn}
use Rattle.og_value.specs.declared.term.SetOp.{SetOp}
use Rattle.og_query.specs.declared.condition.Cond.{Cond}
use Rattle.og_query.specs.declared.expression.Expr.{Expr}
use Rattle.og_plan.specs.declared.plan.ColPair.{ColPair}
use Rattle.og_plan.specs.declared.plan.Plan.{Plan, fold-Plan, fold-roll-Plan, ind-Plan, map-Plan, roll-Plan}
use Rattle.og_plan.specs.declared.plan.Plan.TheVariants.{Scan, Filter, Product, KeyJoin, OverlapJoin, Project, Combine, Semis, rolls-Scan, rolls-Filter, rolls-Product, rolls-KeyJoin, rolls-OverlapJoin, rolls-Project, rolls-Combine, rolls-Semis}
use Rattle.og_plan.specs.declared.plan.Plan.TheOpen as o
use Rattle.og_plan.specs.declared.plan.PlanSemi.{PlanSemi}

-- a fold over plans
module _ {A : Type 0} (step : o.Plan-F A → A) where
  -- of a scan
  pub fold-Scan : (name : List ℕ) (schema : List OneColumn) → fold-Plan A step (Scan name schema) ≡ step (o.Scan name schema)
  fold-Scan name schema = ap (fold-Plan A step) (sym (rolls-Scan name schema)) ∙ fold-roll-Plan A step (o.Scan name schema)

  -- of a filter
  pub fold-Filter : (input : Plan) (parts : List Cond) → fold-Plan A step (Filter input parts) ≡ step (o.Filter (fold-Plan A step input) parts)
  fold-Filter input parts = ap (fold-Plan A step) (sym (rolls-Filter input parts)) ∙ fold-roll-Plan A step (o.Filter input parts)

  -- of a product
  pub fold-Product : (left right : Plan) → fold-Plan A step (Product left right) ≡ step (o.Product (fold-Plan A step left) (fold-Plan A step right))
  fold-Product left right = ap (fold-Plan A step) (sym (rolls-Product left right)) ∙ fold-roll-Plan A step (o.Product left right)

  -- of a join on keys
  pub fold-KeyJoin : (left right : Plan) (pairs : List ColPair) (rest : List Cond)
      → fold-Plan A step (KeyJoin left right pairs rest) ≡ step (o.KeyJoin (fold-Plan A step left) (fold-Plan A step right) pairs rest)
  fold-KeyJoin left right pairs rest = ap (fold-Plan A step) (sym (rolls-KeyJoin left right pairs rest)) ∙ fold-roll-Plan A step (o.KeyJoin left right pairs rest)

  -- of a join on periods that overlap
  pub fold-OverlapJoin : (left right : Plan) (pair : ColPair) (rest : List Cond)
      → fold-Plan A step (OverlapJoin left right pair rest) ≡ step (o.OverlapJoin (fold-Plan A step left) (fold-Plan A step right) pair rest)
  fold-OverlapJoin left right pair rest = ap (fold-Plan A step) (sym (rolls-OverlapJoin left right pair rest)) ∙ fold-roll-Plan A step (o.OverlapJoin left right pair rest)

  -- of a projection
  pub fold-Project : (input : Plan) (items : List Expr) → fold-Plan A step (Project input items) ≡ step (o.Project (fold-Plan A step input) items)
  fold-Project input items = ap (fold-Plan A step) (sym (rolls-Project input items)) ∙ fold-roll-Plan A step (o.Project input items)

  -- of two answers combined
  pub fold-Combine : (op : SetOp) (left right : Plan) → fold-Plan A step (Combine op left right) ≡ step (o.Combine op (fold-Plan A step left) (fold-Plan A step right))
  fold-Combine op left right = ap (fold-Plan A step) (sym (rolls-Combine op left right)) ∙ fold-roll-Plan A step (o.Combine op left right)

  -- of semis over an input
  pub fold-Semis : (input : Plan) (semis : List PlanSemi) → fold-Plan A step (Semis input semis) ≡ step (o.Semis (fold-Plan A step input) semis)
  fold-Semis input semis = ap (fold-Plan A step) (sym (rolls-Semis input semis)) ∙ fold-roll-Plan A step (o.Semis input semis)

-- induction over plans
pub induction-Plan : (P : Plan → Type 0)
    → ((name : List ℕ) (schema : List OneColumn) → P (Scan name schema))
    → ((input : Plan) (parts : List Cond) → P input → P (Filter input parts))
    → ((left right : Plan) → P left → P right → P (Product left right))
    → ((left right : Plan) (pairs : List ColPair) (rest : List Cond) → P left → P right → P (KeyJoin left right pairs rest))
    → ((left right : Plan) (pair : ColPair) (rest : List Cond) → P left → P right → P (OverlapJoin left right pair rest))
    → ((input : Plan) (items : List Expr) → P input → P (Project input items))
    → ((op : SetOp) (left right : Plan) → P left → P right → P (Combine op left right))
    → ((input : Plan) (semis : List PlanSemi) → P input → P (Semis input semis))
    → (plan : Plan) → P plan
induction-Plan P scan filter product key_join overlap_join project combine semis = ind-Plan P (λ x y is. subst (λ z. P (roll-Plan z)) is (at y))
  where
    at : (y : o.Plan-F ((plan : Plan) × P plan)) → P (roll-Plan (map-Plan ((plan : Plan) × P plan) Plan (λ x. x.0) y))
    at (o.Scan name schema) = subst P (sym (rolls-Scan name schema)) (scan name schema)
    at (o.Filter input parts) = subst P (sym (rolls-Filter input.0 parts)) (filter input.0 parts input.1)
    at (o.Product left right) = subst P (sym (rolls-Product left.0 right.0)) (product left.0 right.0 left.1 right.1)
    at (o.KeyJoin left right pairs rest) = subst P (sym (rolls-KeyJoin left.0 right.0 pairs rest)) (key_join left.0 right.0 pairs rest left.1 right.1)
    at (o.OverlapJoin left right pair rest) = subst P (sym (rolls-OverlapJoin left.0 right.0 pair rest)) (overlap_join left.0 right.0 pair rest left.1 right.1)
    at (o.Project input items) = subst P (sym (rolls-Project input.0 items)) (project input.0 items input.1)
    at (o.Combine op left right) = subst P (sym (rolls-Combine op left.0 right.0)) (combine op left.0 right.0 left.1 right.1)
    at (o.Semis input all) = subst P (sym (rolls-Semis input.0 all)) (semis input.0 all input.1)
