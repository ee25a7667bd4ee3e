use Rattle.std.proofs.Common.{◌≡◌, ◌≤◌, ℕ, List, length, take, fold, ap, ◌∙◌}
use Rattle.std.proofs.lemmas.List.{take_all}
use Rattle.og_query.specs.declared.query.Query.{Query}
use Rattle.og_query.specs.declared.query.Rest.{Rest}
use Rattle.og_plan.specs.Meaning.{plan_rows}
use Rattle.og_plan.specs.PlanOf.{core_plan, plan_of}
use Rattle.og_plan.specs.Shapes.{is_sound, scans_of}
use Rattle.og_plan.specs.Sizes.{plan_size}
use Rattle.og_plan.specs.declared.plan.Plan.{Plan}
use Rattle.og_plan.specs.declared.plan.Plan.TheVariants.{Combine}
use Rattle.og_plan.proofs.LoopLemmas.{all_here, folded_more}
use Rattle.og_plan.proofs.MeaningCores.{plan_means}
use Rattle.og_plan.proofs.SizeLemmas.{plan_keeps_size}
use Rattle.og_plan.proofs.ShapeLemmas.{plan_is_sound, plan_scans}
use Rattle.og_plan.proofs.cores.plan_of.Goals as goal

-- what the loop has made when no further core is left
all_made : (query : Query) (plan : Plan) (rests : List Rest) (n : ℕ) → rests ≡ query.rest → length rests ≤ n
    → plan ≡ fold (λ left rest. Combine rest.op left (core_plan rest.core)) (core_plan query.first) (take n rests) → plan ≡ plan_of query
all_made query plan rests n same all is = is ∙ ap (fold (λ left rest. Combine rest.op left (core_plan rest.core)) (core_plan query.first)) (take_all n rests all ∙ same)

pub returns-clause-meaning : goal.returns-clause-meaning
returns-clause-meaning c d rows fit =
    ap (plan_rows d rows) (all_made c.args.query.now c.rests.plan _ c.rests.rest-index c.as_slice-rest-items.ensures c.rests-test.false c.rests.invariant)
    ∙ plan_means d rows c.args.query.now c.requires.tables c.requires.range fit

pub returns-clause-size : goal.returns-clause-size
returns-clause-size c sizes =
    ap (plan_size sizes) (all_made c.args.query.now c.rests.plan _ c.rests.rest-index c.as_slice-rest-items.ensures c.rests-test.false c.rests.invariant) ∙ plan_keeps_size sizes c.args.query.now c.requires.tables

pub returns-clause-sound : goal.returns-clause-sound
returns-clause-sound c =
    ap is_sound (all_made c.args.query.now c.rests.plan _ c.rests.rest-index c.as_slice-rest-items.ensures c.rests-test.false c.rests.invariant) ∙ plan_is_sound c.args.query.now c.requires.tables

pub returns-clause-scans : goal.returns-clause-scans
returns-clause-scans c =
    ap scans_of (all_made c.args.query.now c.rests.plan _ c.rests.rest-index c.as_slice-rest-items.ensures c.rests-test.false c.rests.invariant) ∙ plan_scans c.args.query.now c.requires.tables

pub rests-preserved : goal.rests-preserved
rests-preserved c =
    folded_more (λ left rest. Combine rest.op left (core_plan rest.core)) (core_plan c.args.query.now.first) c.as_slice-rest-items.result.now c.rests.rest-index c.rest-item.result c.rests.plan _ c.rests-test.true c.rest-item.is c.rests.invariant
    c.in_ok-plan-2.ensures

pub combined-requires : goal.combined-requires
combined-requires c =
    all_here (λ rest. 1 ≤ length rest.core.tables) c.args.query.now.rest c.as_slice-rest-items.result.now c.rests.rest-index c.rest-item.result c.as_slice-rest-items.ensures c.rests-test.true c.rest-item.is c.requires.tables.1

pub returns-clause-plan : goal.returns-clause-plan
returns-clause-plan c = all_made c.args.query.now c.rests.plan _ c.rests.rest-index c.as_slice-rest-items.ensures c.rests-test.false c.rests.invariant
