use Rattle.std.proofs.Common.{◌+◌, rules, arith}
use Rattle.og_join.specs.Sweep.{column_places}
use Rattle.og_join.proofs.OverlapLemmas.{column_places-push, more_behind}
use Rattle.og_join.proofs.sweep.push_column.Goals as goal

pub places-preserved : goal.places-preserved
places-preserved c = record {
  count = omega (arith, c.places-test.true);
  places = more_behind c.args.found.now.items c.places.found.items c.push.new.self.items (column_places c.args.i c.args.j c.places.k) _ (c.args.i + c.places.k, c.args.j)
      c.places.invariant.places (column_places-push c.args.i c.args.j c.places.k) (search rules);
}
