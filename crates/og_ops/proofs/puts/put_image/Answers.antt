use Rattle.std.proofs.Common.{[], ◌∷◌, ap, if◌then◌else◌}
use Rattle.std.proofs.lemmas.Result.{on_ok_weaker}
use Rattle.og_base.specs.Ranges.{holds_day}
use Rattle.og_ops.proofs.RowLemmas.{pushed_rows, pushed_size}
use Rattle.og_ops.proofs.puts.put_image.Goals as goal

pub returns-clause-rows : goal.returns-clause-rows
returns-clause-rows g c =
    on_ok_weaker c.push.result (λ e d r. pushed_rows g.R.Instant.meaning _ _ _ _ d _ e
    (ap (λ x. if holds_day c.args.days d then x ∷ [] else []) (c.in_ok-image.ensures d r))) c.push.ensures.pushed

pub returns-clause-size : goal.returns-clause-size
returns-clause-size g c = on_ok_weaker c.push.result (λ e. pushed_size _ _ _ _ e) c.push.ensures.pushed
