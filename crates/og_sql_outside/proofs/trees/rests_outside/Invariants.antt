use Rattle.std.proofs.Common.{◌≡◌, drop}
use Rattle.og_sql_outside.specs.Outside.{first_in, outside_core}
use Rattle.og_sql_outside.proofs.trees.rests_outside.Given as goal

abbrev pub invariant-rests : goal.invariant-rests
invariant-rests l = first_in (λ rest. outside_core rest.core) l.rests ≡ first_in (λ rest. outside_core rest.core) (drop l.rest-index l.rests)
