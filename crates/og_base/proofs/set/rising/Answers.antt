use Rattle.std.proofs.Common.{◌∙◌, sym}
use Rattle.std.proofs.lemmas.List.Filters.{dedup_is}
use Rattle.std.proofs.lemmas.List.Kept.{IsStrictlySortedBy-dedup, Contains-dedup, Contains-from_dedup}
use Rattle.std.proofs.lemmas.List.Sorted.{Contains-permutation, IsPermutation-sym}
use Rattle.og_base.specs.Set.{IsExactOrder}
use Rattle.og_base.proofs.SetLemmas.{is_set_of_members, set_of-rising, eq_by_cmp-exact}
use Rattle.og_base.proofs.set.rising.Goals as goal

pub returns-then-rise-clause-set : goal.returns-then-rise-clause-set
returns-then-rise-clause-set g c =
    let o : IsExactOrder _ = record { total = g.met.T.Ord.total; exact = c.requires.exact } in
    sym (set_of-rising o c.args.values.items (rw c.as_slice.ensures.value at (c.rise.ensures.0 c.if-rise.true)))

pub returns-clause-set : goal.returns-clause-set
returns-clause-set g c =
    let ord = g.met.T.Ord in
    let o : IsExactOrder _ = record { total = ord.total; exact = c.requires.exact } in
    let is = dedup_is _ _ _ c.dedup.ensures.filtered in
    let moved = c.in_ok-sort.ensures.permutation in
    is_set_of_members o c.args.values.items c.dedup.new.self.items
    (rw is (IsStrictlySortedBy-dedup ord.total ord.matches_eq _ c.in_ok-sort.ensures.sorted))
    (λ z h. Contains-permutation _ _ z (IsPermutation-sym _ _ moved) (Contains-from_dedup _ _ z (rw is at h)))
    (λ z h. rw is (Contains-dedup g.met.T.Eq.laws (λ x y e. eq_by_cmp-exact o.exact x y (sym (ord.matches_eq x y) ∙ e)) _ z (Contains-permutation _ _ z moved h)))
