use Rattle.std.proofs.Common.{[], sym, rules}
use Rattle.std.proofs.lemmas.List.{append-nil}
use Rattle.og_join.specs.SameKey.{IsNear}
use Rattle.og_join.proofs.SameKeyLemmas.{AreHits-nil, AreHits-more}
use Rattle.og_join.proofs.same_key.try_others.Goals as goal

pub others-init : goal.others-init
others-init g c =
    ([], λ near. AreHits-nil g.R.Instant.meaning g.R.Glue.glued (g.M.PairMap.image c.args.pair_map.now) (g.C.DayCond.holds c.args.cond.now) c.args.left.now.row c.args.left.now.days, sym (append-nil c.args.out.now.items))

pub others-preserved : goal.others-preserved
others-preserved g c =
    let at = g.R.Instant.meaning in
    let glued = g.R.Glue.glued in
    let holds = g.C.DayCond.holds c.args.cond.now in
    let left = c.args.left.now in
    AreHits-more at glued (g.M.PairMap.image c.args.pair_map.now) holds left.row left.days (IsNear glued at holds c.args.span.now left.row) c.args.others.now c.others.other-index c.other-item.result
    c.args.out.now.items c.others.out.items c.try_near.new.out.items c.others.invariant.0 c.in_ok-try_near.ensures.0 (search rules) (search rules)
    c.others.invariant.1 c.others.invariant.2 c.in_ok-try_near.ensures.1 c.in_ok-try_near.ensures.2
