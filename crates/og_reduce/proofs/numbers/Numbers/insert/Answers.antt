use Rattle.std.proofs.Common.{sym, subst, to_z, of_z, w64}
use Rattle.std.proofs.lemmas.Int.{to_z-of_z}
use Rattle.og_reduce.specs.Numbers.{AreBetween}
use Rattle.og_reduce.proofs.NumberLemmas.{between_more}
use Rattle.og_reduce.proofs.numbers.Numbers.insert.Goals as goal

pub invariant_of-self-2 : goal.invariant_of-self-2
invariant_of-self-2 c =
    let l = c.lesser-self-inside.result in
    let g = c.greater-self-inside.result in
    let keys = c.insert.new.self.keys in
    subst (λ l. AreBetween l (to_z w64 (of_z w64 g)) keys) (sym (to_z-of_z w64 l (record { sfits = c.lesser-self-inside.type_inv })))
    (subst (λ g. AreBetween l g keys) (sym (to_z-of_z w64 g (record { sfits = c.greater-self-inside.type_inv })))
    (subst (AreBetween l g) (sym c.in_ok-insert.ensures.keys)
    (between_more c.self.inside.least c.self.inside.greatest l g _ c.self.inside.all.keys c.self.invariant c.lesser-self-inside.ensures c.greater-self-inside.ensures)))
