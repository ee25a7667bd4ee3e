use Rattle.std.proofs.Common.{Bool, List, true≢false, sym, subst, ◌∙◌, rules}
use Rattle.std.specs.List.Sorted.{IsBinarySearchResult}
use Rattle.og_join.specs.Sought.{IsSought}
use Rattle.og_join.proofs.SoughtLemmas.{not_found}
use Rattle.og_join.proofs.sought.Sought.has.Goals as goal

pub returns-else-not-self : goal.returns-else-not-self
returns-else-not-self g c unfound is =
    let sought : Bool × List g.row.K.Denot = (c.self.inside.few, c.self.inside.keys.items) in
    let found = subst (λ s. IsSought g.K.Ord.cmp s c.args.key.now) (sym c.self.view_is) is in
    absurd (true≢false
    (sym (found (search rules))
    ∙ not_found g.met.K.Ord.total sought c.args.key.now c.self.invariant c.binary_search.result
    (subst (λ ks. IsBinarySearchResult (λ k. g.K.Ord.cmp k c.args.key.now) ks c.binary_search.result) c.as_slice.ensures.value c.binary_search.ensures.position) (sym c.is_ok.ensures.value ∙ unfound)))
