use Rattle.std.proofs.Common.{◌≤◌, ◌*◌, ap, sym, subst, length, arith, ◌∙◌}
use Rattle.std.specs.List.{flat_map}
use Rattle.og_base.specs.Set.{IsExactOrder}
use Rattle.og_join.specs.Hits.{stored_hits}
use Rattle.og_join.specs.Tried.{AreJoined}
use Rattle.og_join.proofs.BlockLemmas.{AreJoined-blocks}
use Rattle.og_join.proofs.HitLemmas.{length-stored_hits}
use Rattle.og_join.proofs.OverlapJoinLemmas.{overlap_law, overlap_size}
use Rattle.og_join.proofs.spans.overlap_join_with.Goals as goal

pub returns-clause-law : goal.returns-clause-law
returns-clause-law g c d r =
    let at = g.R.Instant.meaning in
    let glued = g.R.Glue.glued in
    let image = g.M.PairMap.image c.args.pair_map.now in
    let holds = g.C.DayCond.holds c.args.cond.now in
    let left = c.args.left.now in
    let right = c.args.right.now in
    let ls = c.in_ok-lefts.lefts.items in
    let rs = c.in_ok-rights.rights in
    let ord = g.met.R.Fixed.Ord g.world.𝓛 g.world.𝓜 g.world.𝓡 ((λ s x. x), (λ x. x), (λ x. x), λ x. x) in
    let row = g.met.R.Instant g.world.𝓛 g.world.𝓜 g.world.𝓡 ((λ s x. x), (λ x. x), (λ x. x), λ x. x) in
    let o : IsExactOrder g.R.Fixed.Ord.cmp = record { total = ord.total; exact = row.exact } in
    let all = ap (flat_map (λ b. b.now)) c.as_slice-2.ensures.value ∙ c.in_ok-blocks.ensures ∙ c.as_slice.ensures.value in
    let made = AreJoined-blocks glued image at holds left right rs c.as_slice-2.result.now c.in_ok-hits.hits.items c.in_ok-hits.ensures in
    overlap_law o glued image at holds (g.Q.Spans.left_of c.args.spans.now) (g.Q.Spans.right_of c.args.spans.now) left right c.of.result ls rs d r
    c.in_ok-lefts.ensures.rows c.in_ok-rights.ensures.rows
    (subst (λ rel. AreJoined glued image at holds left right rs ls rel) (sym c.of.ensures) (subst (λ xs. AreJoined glued image at holds left right rs xs (stored_hits c.in_ok-hits.hits.items)) all made.0))
    c.requires.told

pub returns-clause-size : goal.returns-clause-size
returns-clause-size g c =
    let ls = c.in_ok-lefts.lefts.items in
    let rs = c.in_ok-rights.rights in
    let hits = c.in_ok-hits.hits.items in
    let all = ap (flat_map (λ b. b.now)) c.as_slice-2.ensures.value ∙ c.in_ok-blocks.ensures ∙ c.as_slice.ensures.value in
    let made = AreJoined-blocks g.R.Glue.glued (g.M.PairMap.image c.args.pair_map.now) g.R.Instant.meaning (g.C.DayCond.holds c.args.cond.now) c.args.left.now c.args.right.now rs c.as_slice-2.result.now hits c.in_ok-hits.ensures in
    overlap_size (length c.of.result) (length ls) (length rs) (length c.args.left.now) (length c.args.right.now)
    (subst (λ xs. length c.of.result ≤ length xs * length rs) all (omega (arith, ap length c.of.ensures, length-stored_hits hits, made.1)))
    c.in_ok-lefts.ensures.size c.in_ok-rights.ensures.size
