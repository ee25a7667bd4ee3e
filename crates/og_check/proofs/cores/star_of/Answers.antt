use Rattle.std.proofs.Common.{◌∙◌, ◌++◌, ◌+◌, drop, sym, ap}
use Rattle.og_check.specs.Sight.{joined}
use Rattle.og_check.proofs.Parts.{left}
use Rattle.og_check.proofs.StarLemmas.{star_next}
use Rattle.og_check.proofs.cores.star_of.Goals as goal

pub items-preserved : goal.items-preserved
items-preserved c =
    star_next c.items.all.exprs c.items.all.columns.items _ _ _ _ _ (ap joined (left c.args.items.now c.items.item-index c.item-item.result c.items-test.true c.item-item.is) ∙ ap (λ cs. cs ++ joined (drop (c.items.item-index + 1) c.args.items.now)) (sym c.columns.ensures)) c.in_ok-add_columns.ensures ∙ c.items.invariant
