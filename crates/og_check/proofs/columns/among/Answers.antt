use Rattle.std.proofs.Common.{◌+◌, ◌∙◌, drop, arith}
use Rattle.og_check.specs.Hits.{with_found}
use Rattle.og_check.specs.Sight.{among}
use Rattle.og_check.proofs.HitLemmas.{among_next, joined_next}
use Rattle.og_check.proofs.columns.among.Goals as goal

pub items-preserved : goal.items-preserved
items-preserved c =
    let count = joined_next c.args.items.now c.items.item-index c.item-item.result c.items-test.true c.item-item.is in (
      (λ j. with_found (c.item_hits.ensures.hits j) (among c.args.table.now c.args.name.now (c.item_hits.ensures.end j) (drop (c.items.item-index + 1) c.args.items.now)))
          ∙ among_next c.items.hits c.args.table.now c.args.name.now c.items.place c.items.item-index c.args.items.now c.item-item.result c.items-test.true c.item-item.is ∙ c.items.invariant.0,
      omega (arith, c.item_hits.ensures.end, c.items.invariant.1, count),
      omega (arith, c.item_hits.ensures.near, c.items.invariant.2),
    )
