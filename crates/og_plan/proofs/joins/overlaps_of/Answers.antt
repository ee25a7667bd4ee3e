use Rattle.std.proofs.Common.{sym, ◌∙◌}
use Rattle.std.specs.List.{flat_map}
use Rattle.og_plan.specs.Joins.{listed, overlap_of}
use Rattle.og_plan.proofs.LoopLemmas.{listed_some, listed_none, all_walked}
use Rattle.og_plan.proofs.joins.overlaps_of.Goals.{in-Some+in_ok-push, in_default}
use Rattle.og_plan.proofs.joins.overlaps_of.Goals as goal

pub parts-preserved : goal.parts-preserved
parts-preserved c =
    let start = c.args.start in
    let parts = c.as_slice-part-items.result.now in
    elim c.match-overlap_of.branch [
      | in-Some+in_ok-push w ↦
          listed_some (overlap_of start) parts c.parts.part-index c.part-item.result w.in-Some.pair c.parts.pairs _ c.parts-test.true c.part-item.is c.parts.invariant
          (sym c.overlap_of.ensures ∙ w.in-Some.is) (w.pairs-is ∙ w.in_ok-push.ensures.ok)
      | in_default w ↦
          listed_none (overlap_of start) parts c.parts.part-index c.part-item.result c.parts.pairs _ c.parts-test.true c.part-item.is c.parts.invariant (sym c.overlap_of.ensures ∙ w.in_default.is) w.pairs-is
    ]

pub returns : goal.returns
returns c = all_walked (flat_map (λ part. listed (overlap_of c.args.start part))) _ _ c.parts.part-index _ c.as_slice-part-items.ensures c.parts-test.false c.parts.invariant
