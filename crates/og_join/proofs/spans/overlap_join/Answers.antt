use Rattle.std.proofs.Common.{ap, ◌∙◌}
use Rattle.std.proofs.lemmas.List.{map-id}
use Rattle.std.proofs.lemmas.Result.{IfOk-weaker}
use Rattle.og_base.specs.Set.{set_of}
use Rattle.og_rel.specs.Relations.{relation_at}
use Rattle.og_join.specs.Joined.{joined}
use Rattle.og_join.proofs.spans.overlap_join.Goals as goal

pub returns-clause-law : goal.returns-clause-law
returns-clause-law g c =
    let cmp = g.R.Fixed.Ord.cmp in
    let at = g.R.Instant.meaning in
    let glued = g.R.Glue.glued in
    IfOk-weaker c.overlap_join_with.result _ _
    (λ r law d day. law d day
    ∙ ap (set_of cmp)
    (map-id (joined glued (λ x y. g.C.DayCond.holds c.args.cond.now d (glued x y)) (relation_at cmp at c.args.left.now d) (relation_at cmp at c.args.right.now d)))) c.overlap_join_with.ensures.law
