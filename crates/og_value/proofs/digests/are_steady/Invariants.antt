use Rattle.std.proofs.Common.{◌≡◌, true, take}
use Rattle.std.specs.List.{list_all}
use Rattle.og_value.specs.Steady.{is_steady_value}
use Rattle.og_value.proofs.digests.are_steady.Given as goal

abbrev pub invariant-values : goal.invariant-values
invariant-values l = list_all is_steady_value (take l.value-index l.values) ≡ true
