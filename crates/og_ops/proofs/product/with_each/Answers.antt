use Rattle.std.proofs.Common.{[], ◌∷◌, if◌then◌else◌, rules, arith}
use Rattle.og_base.specs.Ranges.{holds_day}
use Rattle.og_rel.proofs.PresentLemmas.{made_more}
use Rattle.og_ops.specs.Plain.{products}
use Rattle.og_ops.proofs.RowLemmas.{one_products-append}
use Rattle.og_ops.proofs.product.with_each.Goals as goal

pub rows-preserved : goal.rows-preserved
rows-preserved g c = record {
  rows = λ d r.
      let at = g.R.Instant.meaning in
      let glued = g.R.Glue.glued in
      let x = at c.args.row.now d in
      let here = holds_day c.args.days.now d in
      made_more at (products glued (if here then x ∷ [] else [])) (one_products-append glued x here) c.args.right.now c.rows.i _ _ c.rows.made c.with_one.new.made d (search rules)
      c.row.ensures c.days.ensures (c.rows.invariant.rows d r) (c.in_ok-with_one.ensures.rows d r);
  size = omega (arith, c.rows.invariant.size, c.in_ok-with_one.ensures.size);
}
