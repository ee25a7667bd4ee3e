use Rattle.std.proofs.Common.{sym, subst}
use Rattle.std.proofs.lemmas.Result.{IfOk-weaker}
use Rattle.og_base.specs.Set.{IsExactOrder}
use Rattle.og_rel.specs.Shares.{AreListed, rows_of}
use Rattle.og_rel.proofs.WorkerLemmas.{set_of-shares}
use Rattle.og_rel.proofs.shares.put_together.Goals as goal

pub returns : goal.returns
returns g c =
    let cmp = g.F.Ord.cmp in
    let ord = g.met.F.Ord g.world.𝓛 g.world.𝓜 g.world.𝓡 ((λ s x. x), (λ x. x), (λ x. x), λ x. x) in
    let o : IsExactOrder cmp = record { total = ord.total; exact = c.requires.exact } in
    IfOk-weaker c.in_order.result _ _ (λ rows ordered. set_of-shares o _ (λ share made h. subst (AreListed cmp (rows_of share.items)) (sym h.2) h.1) c.args.parts.items _ _ rows.items
    c.in_ok-shares.ensures c.in_ok-lists.ensures ordered) c.in_order.ensures
