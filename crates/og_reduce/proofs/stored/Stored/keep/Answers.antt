use Rattle.std.proofs.Common.{◌≡◌, ◌++◌, ℤ, List, [], Some, map, refl, subst, sym}
use Rattle.std.specs.List.{All}
use Rattle.std.proofs.lemmas.List.Elements.{All-push}
use Rattle.std.proofs.lemmas.Option.{IfSome_then}
use Rattle.og_value.specs.Heads.{number_at}
use Rattle.og_reduce.specs.Columns.{AreNumbers, IsBeside}
use Rattle.og_reduce.proofs.ColumnLemmas.{AreNumbers-more}
use Rattle.og_reduce.proofs.stored.Stored.keep.Goals as goal

pub invariant_of-self-2 : goal.invariant_of-self-2
invariant_of-self-2 c =
    let rel = c.self.inside.rel in
    let place = c.args.place in
    let pairs = c.pairs.result.now in
    let one : IsBeside rel (record { place = place; numbers = c.and_numbers-numbers.result }) =
    IfSome_then c.and_numbers-numbers.result c.and_numbers-numbers.ensures
    (λ all e. subst (AreNumbers place all.items) c.pairs.ensures
    (AreNumbers-more place [] pairs [] all.items (subst (λ (l : List ℤ). map Some all.items ≡ map Some l ++ map (λ p. number_at p.row place) pairs) c.new.ensures.items e) refl)) in
    subst (All (IsBeside rel)) (sym c.in-Ok.ensures.items) (All-push (IsBeside rel) c.self.inside.columns.items (record { place = place; numbers = c.and_numbers-numbers.result }) c.self.invariant one)
