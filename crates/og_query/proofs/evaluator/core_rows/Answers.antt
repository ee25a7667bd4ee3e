use Rattle.std.proofs.Common.{◌≡◌, IfOk, subst}
use Rattle.og_base.specs.Set.{set_of}
use Rattle.og_value.specs.Order.{row_order}
use Rattle.og_query.proofs.evaluator.core_rows.Goals as goal

pub returns : goal.returns
returns c = λ d. subst (λ images. IfOk c.as_set.result (λ rows. rows.items ≡ set_of row_order images)) (c.in_ok-images.ensures d) c.as_set.ensures
