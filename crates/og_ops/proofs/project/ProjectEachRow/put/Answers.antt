use Rattle.std.proofs.Common.{[], ◌++◌, ◌∷◌, ap, ◌∙◌, if◌then◌else◌}
use Rattle.std.proofs.lemmas.Result.{on_ok_weaker}
use Rattle.og_base.specs.Ranges.{holds_day}
use Rattle.og_rel.specs.Relations.{present}
use Rattle.og_ops.proofs.RowLemmas.{map-one}
use Rattle.og_ops.proofs.project.ProjectEachRow.put.Goals as goal

pub returns-clause-rows : goal.returns-clause-rows
returns-clause-rows g c =
    on_ok_weaker c.put_image.result (λ e d r.
    let at = g.R.Instant.meaning in
    let f = g.M.RowMap.image c.args.self.now.items d in
    let x = at c.args.row.now d in
    e d r
    ∙ ap (λ days. present at c.args.made.now d ++ (if holds_day days d then f x ∷ [] else [])) c.in_ok-copy.ensures
    ∙ ap (λ rows. present at c.args.made.now d ++ rows) (map-one f x (holds_day c.args.days.now d))) c.put_image.ensures.rows
