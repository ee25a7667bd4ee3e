use Rattle.og_join.proofs.GroupLemmas.{groups_more}
use Rattle.og_join.proofs.groups.large_groups.Goals as goal

pub rows-preserved : goal.rows-preserved
rows-preserved g c = groups_more g.K.Ord.cmp c.args.rows.now c.rows.groups.items c.push.new.self.items _ c.in_ok-push.ensures.items c.with_key-same.ensures c.rows.invariant
