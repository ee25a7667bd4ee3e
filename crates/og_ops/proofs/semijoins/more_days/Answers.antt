use Rattle.std.proofs.lemmas.Result.{IfOk-weaker}
use Rattle.og_base.specs.Ranges.{holds_day}
use Rattle.og_ops.proofs.MetLemmas.{met_one}
use Rattle.og_ops.proofs.semijoins.more_days.Goals as goal

pub returns : goal.returns
returns g c =
    let at = g.R.Instant.meaning in
    IfOk-weaker c.union.result _ _ (λ s h d r. met_one (g.M.Matching.meets c.args.matching.now d (at c.args.left.now d)) (at c.args.other.now d)
    (holds_day s d) (holds_day c.args.found d) (holds_day c.in_ok-shared.shared d) (holds_day c.args.days.now d) (h d) (c.in_ok-shared.ensures d r)) c.union.ensures
