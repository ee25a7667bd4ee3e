use Rattle.std.proofs.Common.{◌≡◌, ◌≤◌, ◌*◌, ℤ, length, take}
use Rattle.og_base.specs.Calendar.{IsRefDay}
use Rattle.og_rel.specs.Relations.{present}
use Rattle.og_ops.specs.Plain.{products}
use Rattle.og_ops.proofs.product.ProductBinaryOp.apply.Given as goal

abbrev pub invariant-rows : goal.invariant-rows
invariant-rows g l = record {
  rows : (d : ℤ) → IsRefDay d → present g.R.Instant.meaning l.made d
      ≡ products g.R.Glue.glued (present g.R.Instant.meaning (take l.i l.left) d) (present g.R.Instant.meaning l.right d);
  size : length l.made ≤ l.i * length l.right;
}
