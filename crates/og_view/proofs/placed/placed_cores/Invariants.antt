use Rattle.std.proofs.Common.{◌≡◌, ◌∷◌, map, take}
use Rattle.og_view.proofs.placed.placed_cores.Given as goal

abbrev pub invariant-rests : goal.invariant-rests
invariant-rests l = l.cores.items ≡ l.query.first ∷ map (λ rest. rest.core) (take l.rest-index l.query.rest)
