-- What expressions and conditions have, one equation for each variant with parts.
use Rattle.std.proofs.Common.{◌≡◌, List, ◌∙◌}
use Rattle.og_value.specs.declared.term.Func.{Func}
use Rattle.og_query.specs.declared.expression.Expr.{Expr}
use Rattle.og_query.specs.declared.expression.Expr.TheVariants.{Call}
use Rattle.og_query.specs.declared.condition.Cond.{Cond}
use Rattle.og_query.specs.declared.condition.Cond.TheVariants.{And, Or}
use Rattle.og_query.proofs.Equations.{fold-Call, fold-And, fold-Or}
use Rattle.og_sql_outside.specs.Outside.{first_in, outside_step, outside_expr, outside_part, outside_cond}
use Rattle.og_sql_outside.proofs.FirstLemmas.{first_in-map}

-- of a call
pub outside-Call : (func : Func) (args : List Expr) → outside_expr (Call func args) ≡ first_in outside_expr args
outside-Call func args = fold-Call outside_step func args ∙ first_in-map (λ arg. arg) outside_expr args

-- of AND
pub outside-And : (parts : List Cond) → outside_cond (And parts) ≡ first_in outside_cond parts
outside-And parts = fold-And outside_part parts ∙ first_in-map (λ part. part) outside_cond parts

-- of OR
pub outside-Or : (parts : List Cond) → outside_cond (Or parts) ≡ first_in outside_cond parts
outside-Or parts = fold-Or outside_part parts ∙ first_in-map (λ part. part) outside_cond parts
