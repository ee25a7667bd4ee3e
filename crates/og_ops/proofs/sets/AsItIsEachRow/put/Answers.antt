use Rattle.std.proofs.Common.{[], ◌∷◌, ap, if◌then◌else◌}
use Rattle.std.proofs.lemmas.Result.{on_ok_weaker}
use Rattle.og_base.specs.Ranges.{holds_day}
use Rattle.og_ops.proofs.RowLemmas.{pushed_rows}
use Rattle.og_ops.proofs.sets.AsItIsEachRow.put.Goals as goal

pub returns-clause-rows : goal.returns-clause-rows
returns-clause-rows g c =
    on_ok_weaker c.put_row.result (λ e d r. pushed_rows g.R.Instant.meaning _ _ _ _ d _ e
    (ap (λ days. if holds_day days d then g.R.Instant.meaning c.args.row.now d ∷ [] else []) c.in_ok-copy.ensures)) c.put_row.ensures
