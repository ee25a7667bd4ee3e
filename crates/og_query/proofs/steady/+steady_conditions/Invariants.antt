use Rattle.std.proofs.Common.{◌≡◌, true, take}
use Rattle.std.specs.List.{list_all}
use Rattle.og_query.specs.Steady.{is_steady_cond}
use Rattle.og_query.proofs.steady.+steady_conditions.Given as goal

abbrev pub invariant-are_steady_conds-all : goal.invariant-are_steady_conds-all
invariant-are_steady_conds-all l = list_all is_steady_cond (take l.one-index l.one-items) ≡ true
