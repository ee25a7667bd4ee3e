use Rattle.std.proofs.Common.{◌≡◌, drop}
use Rattle.og_sql_outside.specs.Outside.{first_in, outside_cond}
use Rattle.og_sql_outside.proofs.trees.semis_outside.Given as goal

abbrev pub invariant-semis : goal.invariant-semis
invariant-semis l = first_in (λ semi. outside_cond semi.cond) l.semis ≡ first_in (λ semi. outside_cond semi.cond) (drop l.semi-index l.semis)
