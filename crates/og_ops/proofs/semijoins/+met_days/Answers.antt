use Rattle.std.proofs.Common.{◌||◌, ◌/◌, length, ap, ap₂, ◌∙◌}
use Rattle.std.specs.List.{list_any}
use Rattle.std.proofs.lemmas.Result.{IfOk-weaker}
use Rattle.og_rel.specs.Relations.{present}
use Rattle.og_ops.specs.Lending.{lent}
use Rattle.og_ops.proofs.MetLemmas.{lent_halves}
use Rattle.og_ops.proofs.semijoins.+met_days.Goals as goal

pub returns : goal.returns
returns g t c =
    let at = g.R.Instant.meaning in
    let meets = g.M.Matching.meets c.args.matching.now in
    IfOk-weaker c.union.result _ _ (λ s e d r. e d
    ∙ ap₂ (λ a b. a || b)
    (c.in_ok-found.ensures d r ∙ ap (λ rows. list_any (meets d (at c.args.left.now d)) (present at (lent rows) d)) c.split_at.ensures.front)
    (c.in_ok-others.ensures d r ∙ ap (λ rows. list_any (meets d (at c.args.left.now d)) (present at (lent rows) d)) c.split_at.ensures.back)
    ∙ lent_halves at (meets d (at c.args.left.now d)) d c.args.rows.now (length c.args.rows.now / 2)) c.union.ensures
