-- The parts of conditions, and the columns that they name.
use Rattle.std.specs.Prelude.{◌-◌, ◌++◌, ℕ, List, [], ◌∷◌, Option, Some, None, map}
use Rattle.std.specs.List.{flat_map}
use Rattle.og_query.specs.declared.expression.Expr.{Expr, fold-Expr}
use Rattle.og_query.specs.declared.expression.Expr.TheVariants as expr
use Rattle.og_query.specs.declared.expression.Expr.TheOpen.{Expr-F, Column, Lit, Call}
use Rattle.og_query.specs.declared.condition.Cond.{Cond, fold-Cond}
use Rattle.og_query.specs.declared.condition.Cond.TheVariants as cond
use Rattle.og_query.specs.declared.condition.Cond.TheOpen.{Cond-F, And, Or, Not, Compare, Relate, Empty, Contains}

-- a condition that is one part
abbrev whole : Cond → Cond × List Cond
whole c = (c, c ∷ [])

-- one condition with its parts, with those of each condition in it
abbrev pub parted_step : Cond-F (Cond × List Cond) → Cond × List Cond
parted_step (And conds) = (cond.And (map (λ c. c.0) conds), flat_map (λ c. c.1) conds)
parted_step (Or conds) = whole (cond.Or (map (λ c. c.0) conds))
parted_step (Not c) = whole (cond.Not c.0)
parted_step (Compare op left right) = whole (cond.Compare op left right)
parted_step (Relate pred left right) = whole (cond.Relate pred left right)
parted_step (Empty period) = whole (cond.Empty period)
parted_step (Contains period day) = whole (cond.Contains period day)

-- the parts of a condition: it is taken apart at every AND that no OR or NOT encloses
abbrev pub parts_of : Cond → List Cond
parts_of c = (fold-Cond (Cond × List Cond) parted_step c).1

-- the places of one expression, with those of each argument
abbrev pub expr_places_step : Expr-F (List ℕ) → List ℕ
expr_places_step (Column place) = place ∷ []
expr_places_step (Lit value) = []
expr_places_step (Call func args) = flat_map (λ places. places) args

-- the places of the columns that an expression names
abbrev pub expr_places : Expr → List ℕ
expr_places = fold-Expr (List ℕ) expr_places_step

-- the places of one condition, with those of each condition in it
abbrev pub places_step : Cond-F (List ℕ) → List ℕ
places_step (And conds) = flat_map (λ places. places) conds
places_step (Or conds) = flat_map (λ places. places) conds
places_step (Not places) = places
places_step (Compare op left right) = expr_places left ++ expr_places right
places_step (Relate pred left right) = expr_places left ++ expr_places right
places_step (Empty period) = expr_places period
places_step (Contains period day) = expr_places period ++ expr_places day

-- the places of the columns that a condition names
abbrev pub places_of : Cond → List ℕ
places_of = fold-Cond (List ℕ) places_step

-- one expression with its places counted from a later one, with each argument so
abbrev pub expr_from_step : ℕ → Expr-F Expr → Expr
expr_from_step start (Column place) = expr.Column (place - start)
expr_from_step start (Lit value) = expr.Lit value
expr_from_step start (Call func args) = expr.Call func args

-- the expression with its places counted from that one
abbrev pub expr_from : ℕ → Expr → Expr
expr_from start = fold-Expr Expr (expr_from_step start)

-- one condition with its places counted from a later one, with each condition in it so
abbrev pub cond_from_step : ℕ → Cond-F Cond → Cond
cond_from_step start (And conds) = cond.And conds
cond_from_step start (Or conds) = cond.Or conds
cond_from_step start (Not c) = cond.Not c
cond_from_step start (Compare op left right) = cond.Compare op (expr_from start left) (expr_from start right)
cond_from_step start (Relate pred left right) = cond.Relate pred (expr_from start left) (expr_from start right)
cond_from_step start (Empty period) = cond.Empty (expr_from start period)
cond_from_step start (Contains period day) = cond.Contains (expr_from start period) (expr_from start day)

-- the condition with its places counted from that one
abbrev pub cond_from : ℕ → Cond → Cond
cond_from start = fold-Cond Cond (cond_from_step start)

-- one expression, as the place of a column
abbrev pub column_step : Expr-F (Option ℕ) → Option ℕ
column_step (Column place) = Some place
column_step _ = None

-- the place of an expression that is a column
abbrev pub column_of : Expr → Option ℕ
column_of = fold-Expr (Option ℕ) column_step
