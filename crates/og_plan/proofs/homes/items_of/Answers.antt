use Rattle.std.proofs.Common.{◌++◌, map, ap, ◌∙◌}
use Rattle.og_plan.specs.Homes.{item_at}
use Rattle.og_plan.specs.Parts.{places_of}
use Rattle.og_plan.proofs.LoopLemmas.{mapped_more, all_walked}
use Rattle.og_plan.proofs.homes.items_of.Goals as goal

pub places-preserved : goal.places-preserved
places-preserved c =
    mapped_more (item_at c.args.widths.now) c.as_slice-place-items.result.now c.places.place-index 0 c.item_at.result c.places.items.items _ c.places-test.true c.places.invariant c.item_at.ensures c.in_ok-push.ensures.items

pub returns : goal.returns
returns c =
    all_walked (map (item_at c.args.widths.now)) c.as_slice-place-items.result.now (places_of c.args.part.now) c.places.place-index c.places.items.items
    (c.as_slice-place-items.ensures.value ∙ c.in_ok-places_of.ensures ∙ ap (λ places. places ++ places_of c.args.part.now) c.new-places.ensures.items) c.places-test.false c.places.invariant
