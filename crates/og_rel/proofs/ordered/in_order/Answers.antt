use Rattle.og_base.specs.Set.{IsExactOrder}
use Rattle.og_rel.proofs.ShareLemmas.{ordered_more}
use Rattle.og_rel.proofs.ordered.in_order.Goals as goal

pub lists-preserved : goal.lists-preserved
lists-preserved g c =
    let o : IsExactOrder _ = record { total = g.met.F.Ord.total; exact = c.requires.exact } in
    ordered_more o c.lists.yielded c.in-Some.list c.lists.all.items c.in_ok-all.all.items c.lists.invariant c.in_ok-all.ensures
