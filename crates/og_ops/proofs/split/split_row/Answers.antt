use Rattle.std.proofs.Common.{[], ◌++◌, ◌∷◌, ◌&&◌, not, refl, ap, ◌∙◌, if◌then◌else◌}
use Rattle.std.proofs.lemmas.List.{append_assoc}
use Rattle.std.proofs.lemmas.Result.{on_ok_weaker}
use Rattle.og_base.specs.Ranges.{holds_day}
use Rattle.og_rel.specs.Relations.{present}
use Rattle.og_ops.proofs.RowLemmas.{pushed_rows, replaced-one}
use Rattle.og_ops.proofs.split.split_row.Goals as goal

pub returns-clause-rows : goal.returns-clause-rows
returns-clause-rows g c =
    on_ok_weaker c.put_image.result (λ h d r.
    let at = g.R.Instant.meaning in
    let p = g.C.DayCond.holds c.args.split.now.cond d in
    let f = g.M.RowMap.image c.args.split.now.items d in
    let x = at c.args.row.now d in
    let here = holds_day c.args.days.now d in
    let met = c.in_ok-met.ensures d r in
    h d r
    ∙ ap (λ rows. rows ++ (if holds_day c.in_ok-changed.changed d then f x ∷ [] else [])) (pushed_rows at _ _ _ _ d _ c.in_ok-put_row.ensures refl)
    ∙ append_assoc (present at c.args.made.now d) _ _
    ∙ ap (λ rows. present at c.args.made.now d ++ rows)
    (replaced-one p f x here _ _ (c.in_ok-others.ensures d ∙ ap (λ t. here && not t) met) (c.in_ok-changed.ensures d ∙ ap (λ t. here && t) met))) c.put_image.ensures.rows
