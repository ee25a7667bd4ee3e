use Rattle.std.proofs.Common.{◌≡◌, take}
use Rattle.og_query.specs.Walk.{zeros}
use Rattle.og_query.proofs.walk.first_places.Given as goal

abbrev pub invariant-sizes : goal.invariant-sizes
invariant-sizes l = l.places.items ≡ zeros (take l.index l.sizes)
