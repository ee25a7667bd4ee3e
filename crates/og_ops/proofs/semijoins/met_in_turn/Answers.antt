use Rattle.std.proofs.Common.{[], ◌∷◌, ◌||◌, take, ap, ◌∙◌, rules}
use Rattle.std.specs.List.{list_any}
use Rattle.og_rel.specs.Relations.{present}
use Rattle.og_ops.specs.Lending.{lent}
use Rattle.og_ops.proofs.MetLemmas.{lent_found_more}
use Rattle.og_ops.proofs.semijoins.met_in_turn.Goals as goal

pub rows-preserved : goal.rows-preserved
rows-preserved g c d r =
    let at = g.R.Instant.meaning in
    let t = g.M.Matching.meets c.args.matching.now d (at c.args.left.now d) in
    let other = c.other-item.result in
    let one = list_any t (present at ((other.row.now, other.days.now) ∷ []) d) in
    c.in_ok-found.ensures d r
    ∙ ap (λ b. b || one) (c.rows.invariant d r)
    ∙ lent_found_more at t d c.args.rows.now c.rows.other-index other (search rules) (search rules)
