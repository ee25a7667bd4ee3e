use Rattle.std.proofs.Common.{◌++◌, length, ap, ◌∙◌, rules}
use Rattle.std.proofs.lemmas.List.{length-append}
use Rattle.og_base.specs.Set.{IsExactOrder, set_of}
use Rattle.og_rel.specs.Relations.{present}
use Rattle.og_rel.proofs.PresentLemmas.{made_more, present-append}
use Rattle.og_ops.specs.Plain.{products}
use Rattle.og_ops.proofs.RowLemmas.{made_all, products-append, size_more, set_of-products}
use Rattle.og_ops.proofs.product.ProductBinaryOp.apply.Goals as goal

pub rows-preserved : goal.rows-preserved
rows-preserved g c = record {
  rows = λ d r.
      let at = g.R.Instant.meaning in
      let glued = g.R.Glue.glued in
      let ys = present at c.args.right.now d in
      made_more at (λ xs. products glued xs ys) (products-append glued ys) c.args.left.now c.rows.i _ _ c.rows.made c.append.new.self d (search rules)
      c.row.ensures c.days.ensures (c.rows.invariant.rows d r)
      (ap (λ rel. present at rel d) c.in_ok-append.ensures.appended ∙ present-append at c.rows.made c.in_ok-more.more d ∙ ap (λ rows. present at c.rows.made d ++ rows) (c.in_ok-more.ensures.rows d r));
  size = size_more (length c.rows.made) _ c.rows.i (length c.in_ok-more.more) (length c.args.right.now) c.rows.invariant.size c.in_ok-more.ensures.size (ap length c.in_ok-append.ensures.appended ∙ length-append c.rows.made c.in_ok-more.more);
}

pub returns-clause-law : goal.returns-clause-law
returns-clause-law g c d r =
    let at = g.R.Instant.meaning in
    let glued = g.R.Glue.glued in
    let ys = present at c.args.right.now d in
    let o : IsExactOrder g.R.Fixed.Ord.cmp = record { total = g.met.R.Fixed.Ord.total; exact = g.met.R.Instant.exact } in
    ap (set_of g.R.Fixed.Ord.cmp) (made_all at (λ xs. products glued xs ys) c.args.left.now c.rows.made _ d (search rules) (c.rows.invariant.rows d r))
    ∙ set_of-products o glued (present at c.args.left.now d) ys
