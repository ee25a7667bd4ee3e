use Rattle.std.proofs.Common.{◌≡◌, ◌≤◌, ◌*◌, ◌++◌, ◌&&◌, ℤ, length, subst₂, ap₂, ◌∙◌}
use Rattle.std.proofs.lemmas.Result.{IfOk-weaker}
use Rattle.og_base.specs.Calendar.{IsRefDay}
use Rattle.og_plan.specs.Meaning.{all_hold, matches}
use Rattle.og_exec.specs.Images.{images}
use Rattle.og_exec.specs.Keys.{have_one_key}
use Rattle.og_exec.specs.Answers.{rel_of}
use Rattle.og_exec.specs.Tables.{rows_on}
use Rattle.og_exec.proofs.AnswerLemmas.{of_made}
use Rattle.og_exec.proofs.keys.key_joined.Goals as goal

pub returns-clause-law : goal.returns-clause-law
returns-clause-law g c =
    let image = g.M.PairMap.image c.args.pair_map.now in
    of_made (λ rel. (d : ℤ) → IsRefDay d → rows_on rel d
    ≡ images (image d) (matches (λ x y. have_one_key c.args.pairs.now x y && all_hold d c.args.rest.now (x ++ y)) (rows_on (rel_of c.args.inputs.left) d) (rows_on (rel_of c.args.inputs.right) d))) _ _ c.made.ensures
    (IfOk-weaker c.columns_joined.result _ _
    (λ r law d day. law d day
    ∙ ap₂ (λ left right. images (image d) (matches (λ x y. have_one_key c.args.pairs.now x y && all_hold d c.args.rest.now (x ++ y)) (rows_on left d) (rows_on right d))) c.rel.ensures c.rel-2.ensures)
    c.columns_joined.ensures.law)

pub returns-clause-size : goal.returns-clause-size
returns-clause-size g c =
    of_made (λ rel. length rel ≤ length (rel_of c.args.inputs.left) * length (rel_of c.args.inputs.right)) _ _ c.made.ensures
    (IfOk-weaker c.columns_joined.result _ _ (λ r size. subst₂ (λ left right. length r ≤ length left * length right) c.rel.ensures c.rel-2.ensures size) c.columns_joined.ensures.size)
