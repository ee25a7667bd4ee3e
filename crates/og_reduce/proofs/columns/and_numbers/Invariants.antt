use Rattle.std.proofs.Common.{◌≡◌, ◌++◌, Some, map, take}
use Rattle.og_value.specs.Heads.{number_at}
use Rattle.og_reduce.proofs.columns.and_numbers.Given as goal

abbrev pub invariant-pairs : goal.invariant-pairs
invariant-pairs l = map Some l.all.items ≡ map Some l.initial.all.items ++ map (λ p. number_at p.row l.place) (take l.pair-index l.pairs)
