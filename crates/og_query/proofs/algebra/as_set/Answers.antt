use Rattle.std.proofs.Common.{◌≡◌, IfOk, subst}
use Rattle.og_base.specs.Set.{set_of}
use Rattle.og_query.proofs.algebra.as_set.Goals as goal

pub returns : goal.returns
returns c = subst (λ order. IfOk c.rising.result (λ set. set.items ≡ set_of order c.args.rows.items)) (λ i x y. c.order_of_rows.ensures.order x y i) c.rising.ensures.set
