use Rattle.std.proofs.Common.{Bool, filter, not, sym, ap, ◌∙◌}
use Rattle.std.specs.Option.{is_some}
use Rattle.og_query.specs.declared.condition.Cond.{Cond}
use Rattle.og_plan.specs.Joins.{key_of}
use Rattle.og_plan.proofs.LoopLemmas.{kept_more, left_out, all_walked}
use Rattle.og_plan.proofs.joins.without_keys.Goals.{then-is_none+in_ok-add_copy, else-is_none}
use Rattle.og_plan.proofs.joins.without_keys.Goals as goal

pub parts-preserved : goal.parts-preserved
parts-preserved c =
    let parts = c.as_slice-part-items.result.now in
    let is_rest : Cond → Bool = λ part. not (is_some (key_of c.args.kinds.now c.args.start part)) in
    let told = ap (λ key. not (is_some key)) (sym c.key_of.ensures) in
    elim c.if-is_none.branch [
      | then-is_none+in_ok-add_copy w ↦
          kept_more is_rest parts c.parts.part-index c.part-item.result c.parts.rest _ c.parts-test.true c.part-item.is c.parts.invariant
          (told ∙ ap not w.if-is_none.ensures) (w.rest-is ∙ w.in_ok-add_copy.ensures)
      | else-is_none w ↦
          left_out is_rest parts c.parts.part-index c.part-item.result c.parts.rest _ c.parts-test.true c.part-item.is c.parts.invariant (told ∙ ap not w.if-is_none.ensures) w.rest-is
    ]

pub returns : goal.returns
returns c = all_walked (filter (λ part. not (is_some (key_of c.args.kinds.now c.args.start part)))) _ _ c.parts.part-index _ c.as_slice-part-items.ensures c.parts-test.false c.parts.invariant
