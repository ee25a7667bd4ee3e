-- Which trees are the same on all days: each of their points is a fixed day.
use Rattle.std.specs.Prelude.{◌&&◌, Bool, true}
use Rattle.std.specs.List.{list_all}
use Rattle.og_value.specs.Steady.{is_steady_value}
use Rattle.og_query.specs.declared.expression.Expr.{Expr, fold-Expr}
use Rattle.og_query.specs.declared.expression.Expr.TheOpen as e
use Rattle.og_query.specs.declared.condition.Cond.{Cond, fold-Cond}
use Rattle.og_query.specs.declared.condition.Cond.TheOpen as c
use Rattle.og_query.specs.declared.query.Core.{Core}
use Rattle.og_query.specs.declared.query.Query.{Query}

-- one expression, with whether each argument is steady in its place
abbrev pub steady_step : e.Expr-F Bool → Bool
steady_step (e.Column place) = true
steady_step (e.Lit value) = is_steady_value value
steady_step (e.Call func args) = list_all (λ arg. arg) args

-- each literal of an expression is the same on all days
abbrev pub is_steady_expr : Expr → Bool
is_steady_expr = fold-Expr Bool steady_step

-- one condition, with whether each part is steady in its place
abbrev pub steady_part : c.Cond-F Bool → Bool
steady_part (c.And parts) = list_all (λ part. part) parts
steady_part (c.Or parts) = list_all (λ part. part) parts
steady_part (c.Not part) = part
steady_part (c.Compare op left right) = is_steady_expr left && is_steady_expr right
steady_part (c.Relate pred left right) = is_steady_expr left && is_steady_expr right
steady_part (c.Empty period) = is_steady_expr period
steady_part (c.Contains period day) = is_steady_expr period && is_steady_expr day

-- each literal of a condition is the same on all days
abbrev pub is_steady_cond : Cond → Bool
is_steady_cond = fold-Cond Bool steady_part

-- each literal of a core is the same on all days
abbrev pub is_steady_core : Core → Bool
is_steady_core core = is_steady_cond core.cond && list_all (λ semi. is_steady_cond semi.cond) core.semis && list_all is_steady_expr core.items

-- each literal of a query is the same on all days
abbrev pub is_steady : Query → Bool
is_steady query = is_steady_core query.first && list_all (λ rest. is_steady_core rest.core) query.rest
