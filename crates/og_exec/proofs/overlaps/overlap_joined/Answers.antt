use Rattle.std.proofs.Common.{◌≡◌, ◌≤◌, ◌*◌, ◌++◌, ◌&&◌, ℤ, length, sym, ap₂, subst, subst₂, ◌∙◌}
use Rattle.std.specs.List.{All}
use Rattle.std.proofs.lemmas.Result.{IfOk-weaker}
use Rattle.og_base.specs.Calendar.{IsRefDay}
use Rattle.og_plan.specs.Meaning.{all_hold, do_overlap, matches}
use Rattle.og_exec.specs.Answers.{rel_of}
use Rattle.og_exec.specs.Images.{images}
use Rattle.og_exec.specs.Tables.{rows_on}
use Rattle.og_exec.proofs.AnswerLemmas.{of_made}
use Rattle.og_exec.proofs.overlaps.overlap_joined.Goals as goal

pub returns-clause-law : goal.returns-clause-law
returns-clause-law g c =
    let image = g.M.PairMap.image c.args.pair_map.now in
    of_made (λ rel. (d : ℤ) → IsRefDay d → All (λ x. length x ≡ c.args.width) (rows_on (rel_of c.args.inputs.left) d) → rows_on rel d
    ≡ images (image d) (matches (λ x y. do_overlap x y c.args.pair.now && all_hold d c.args.rest.now (x ++ y)) (rows_on (rel_of c.args.inputs.left) d) (rows_on (rel_of c.args.inputs.right) d))) _ _ c.made.ensures
    (IfOk-weaker c.pair_joined.result _ _
    (λ r law d day wide. law d day (subst (λ rel. All (λ x. length x ≡ c.args.width) (rows_on rel d)) (sym c.rel.ensures) wide)
    ∙ ap₂ (λ left right. images (image d) (matches (λ x y. do_overlap x y c.args.pair.now && all_hold d c.args.rest.now (x ++ y)) (rows_on left d) (rows_on right d))) c.rel.ensures c.rel-2.ensures)
    c.pair_joined.ensures.law)

pub returns-clause-size : goal.returns-clause-size
returns-clause-size g c =
    of_made (λ rel. length rel ≤ length (rel_of c.args.inputs.left) * length (rel_of c.args.inputs.right)) _ _ c.made.ensures
    (IfOk-weaker c.pair_joined.result _ _ (λ r size. subst₂ (λ left right. length r ≤ length left * length right) c.rel.ensures c.rel-2.ensures size) c.pair_joined.ensures.size)
