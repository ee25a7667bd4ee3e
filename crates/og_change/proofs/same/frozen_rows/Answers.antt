use Rattle.std.proofs.Common.{◌++◌, [], ◌∷◌, sym, ap, ◌∙◌, rules}
use Rattle.std.proofs.lemmas.List.{take_all}
use Rattle.og_rel.specs.Relations.{present}
use Rattle.og_rel.proofs.PresentLemmas.{at_place, present-more}
use Rattle.og_change.proofs.same.frozen_rows.Goals as goal

pub rows-preserved : goal.rows-preserved
rows-preserved g c e r =
    let at = g.R.Instant.meaning in
    let row = c.row.result.now in
    let days = c.days.result.now in
    c.in_ok-freeze_row.ensures e r
    ∙ ap (λ rows. rows ++ present at ((row, days) ∷ []) c.args.d) (c.rows.invariant e r)
    ∙ sym (present-more at c.args.rel.now c.rows.i (row, days) c.args.d (search rules) (at_place c.args.rel.now c.rows.i row days c.row.ensures c.days.ensures))

pub returns : goal.returns
returns g c e r =
    c.rows.invariant e r ∙ ap (λ rel. present g.R.Instant.meaning rel c.args.d) (take_all c.rows.i c.args.rel.now (search rules))
