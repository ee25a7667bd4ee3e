use Rattle.std.proofs.Common.{◌≡◌, true, take}
use Rattle.std.specs.List.{list_all}
use Rattle.og_query.specs.Steady.{is_steady_expr}
use Rattle.og_query.proofs.steady.+steady_expressions.Given as goal

abbrev pub invariant-are_steady_exprs-all : goal.invariant-are_steady_exprs-all
invariant-are_steady_exprs-all l = list_all is_steady_expr (take l.one-index l.one-items) ≡ true
