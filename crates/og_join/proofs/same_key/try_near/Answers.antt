use Rattle.std.proofs.Common.{[], sym}
use Rattle.std.proofs.lemmas.List.{append-nil}
use Rattle.og_join.proofs.SameKeyLemmas.{AreHits-far}
use Rattle.og_join.proofs.same_key.try_near.Goals as goal

pub returns-then-not-do_overlap : goal.returns-then-not-do_overlap
returns-then-not-do_overlap g c = (
  [],
  AreHits-far g.R.Glue.glued g.R.Instant.meaning (g.C.DayCond.holds c.args.cond.now) (g.M.PairMap.image c.args.pair_map.now) c.args.span.now c.args.row.now c.args.days.now c.args.other.now _ c.do_overlap.ensures c.if-not-do_overlap.true,
  sym (append-nil c.args.out.now.items),
)
