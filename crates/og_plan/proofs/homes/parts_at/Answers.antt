use Rattle.std.proofs.Common.{Bool, filter, refl, sym, ap, ◌∙◌}
use Rattle.og_query.specs.declared.condition.Cond.{Cond}
use Rattle.og_plan.specs.Homes.{home_of, same_home}
use Rattle.og_plan.proofs.LoopLemmas.{kept_more, left_out, all_walked}
use Rattle.og_plan.proofs.homes.parts_at.Goals.{then-same_home+in_ok-add_copy, else-same_home}
use Rattle.og_plan.proofs.homes.parts_at.Goals as goal

pub parts-preserved : goal.parts-preserved
parts-preserved c =
    let parts = c.args.parts.now in
    let belongs : Cond → Bool = λ part. same_home (home_of c.args.widths.now part) c.args.home in
    let told = ap (λ home. same_home home c.args.home) (sym c.in_ok-home_of.ensures) ∙ sym c.same_home.ensures in
    elim c.if-same_home.branch [
      | then-same_home+in_ok-add_copy w ↦
          kept_more belongs parts c.parts.part-index c.part-item.result c.parts.here _ c.parts-test.true c.part-item.is c.parts.invariant
          (told ∙ w.if-same_home.true) (w.here-is ∙ w.in_ok-add_copy.ensures)
      | else-same_home w ↦
          left_out belongs parts c.parts.part-index c.part-item.result c.parts.here _ c.parts-test.true c.part-item.is c.parts.invariant (told ∙ w.if-same_home.false) w.here-is
    ]

pub returns : goal.returns
returns c = all_walked (filter (λ part. same_home (home_of c.args.widths.now part) c.args.home)) _ _ c.parts.part-index _ refl c.parts-test.false c.parts.invariant
