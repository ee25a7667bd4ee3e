use Rattle.std.proofs.Common.{[], refl, rules}
use Rattle.og_join.specs.Sweep.{row_places, column_places}
use Rattle.og_join.proofs.OverlapLemmas.{length-row_places, length-column_places}
use Rattle.og_join.proofs.SweepLemmas.{no_later, reach_of-tail, left_first, right_first, found_cost, refused_cost, on_err_always}
use Rattle.og_join.proofs.sweep.pair_first.Goals as goal

pub returns-in_ok-push_row-clause-exact : goal.returns-in_ok-push_row-clause-exact
returns-in_ok-push_row-clause-exact g c =
    left_first g.E.Envelope.lo g.E.Envelope.hi g.met.E.Envelope.spans c.args.left.now c.args.right.now c.requires.left_rises c.requires.right_rises c.args.i c.args.j
    c.index-left-i.result c.index-right-j.result c.requires.left_place c.requires.right_place (search rules) (search rules)
    c.args.found.now.items c.push_row.new.found.items c.reach-count.result (search rules)
    (reach_of-tail g.E.Envelope.lo g.E.Envelope.hi _ c.args.right.now c.args.j c.reach-count.result c.reach-count.ensures.value) c.in_ok-push_row.ensures.places

pub returns-in_ok-push_row-clause-cost : goal.returns-in_ok-push_row-clause-cost
returns-in_ok-push_row-clause-cost g c =
    found_cost c.args.found.now.items c.push_row.new.found.items _ c.reach-count.result c.args.steps.now c.lo_at_most.new.steps c.reach-count.new.steps
    c.in_ok-push_row.ensures.places (length-row_places c.args.i c.args.j c.reach-count.result) c.if-lo_at_most.ensures.cost c.reach-count.ensures.cost

pub returns-in_ok-push_column-clause-exact : goal.returns-in_ok-push_column-clause-exact
returns-in_ok-push_column-clause-exact g c =
    right_first g.E.Envelope.lo g.E.Envelope.hi g.met.E.Envelope.spans c.args.left.now c.args.right.now c.requires.left_rises c.requires.right_rises c.args.i c.args.j
    c.index-left-i.result c.index-right-j.result c.requires.left_place c.requires.right_place (search rules) (search rules)
    c.args.found.now.items c.push_column.new.found.items c.reach-count-else-lo_at_most.result (no_later _ _ c.if-lo_at_most.ensures.answer)
    (reach_of-tail g.E.Envelope.lo g.E.Envelope.hi _ c.args.left.now c.args.i c.reach-count-else-lo_at_most.result c.reach-count-else-lo_at_most.ensures.value) c.in_ok-push_column.ensures.places

pub returns-in_ok-push_column-clause-cost : goal.returns-in_ok-push_column-clause-cost
returns-in_ok-push_column-clause-cost g c =
    found_cost c.args.found.now.items c.push_column.new.found.items _ c.reach-count-else-lo_at_most.result c.args.steps.now c.lo_at_most.new.steps c.reach-count-else-lo_at_most.new.steps
    c.in_ok-push_column.ensures.places (length-column_places c.args.i c.args.j c.reach-count-else-lo_at_most.result) c.if-lo_at_most.ensures.cost c.reach-count-else-lo_at_most.ensures.cost

pub returns-in_err-push_row-clause-refused : goal.returns-in_err-push_row-clause-refused
returns-in_err-push_row-clause-refused g c =
    let count = c.reach-count.result in
    on_err_always c.from_residual.result (refused_cost (row_places c.args.i c.args.j count) _ _ count c.args.steps.now c.lo_at_most.new.steps c.reach-count.new.steps
    (left_first g.E.Envelope.lo g.E.Envelope.hi g.met.E.Envelope.spans c.args.left.now c.args.right.now c.requires.left_rises c.requires.right_rises c.args.i c.args.j
    c.index-left-i.result c.index-right-j.result c.requires.left_place c.requires.right_place (search rules) (search rules)
    [] (row_places c.args.i c.args.j count) count (search rules)
    (reach_of-tail g.E.Envelope.lo g.E.Envelope.hi _ c.args.right.now c.args.j count c.reach-count.ensures.value) refl)
    (length-row_places c.args.i c.args.j count) c.if-lo_at_most.ensures.cost c.reach-count.ensures.cost)

pub returns-in_err-push_column-clause-refused : goal.returns-in_err-push_column-clause-refused
returns-in_err-push_column-clause-refused g c =
    let count = c.reach-count-else-lo_at_most.result in
    on_err_always c.from_residual-in_err-push_column.result (refused_cost (column_places c.args.i c.args.j count) _ _ count c.args.steps.now c.lo_at_most.new.steps c.reach-count-else-lo_at_most.new.steps
    (right_first g.E.Envelope.lo g.E.Envelope.hi g.met.E.Envelope.spans c.args.left.now c.args.right.now c.requires.left_rises c.requires.right_rises c.args.i c.args.j
    c.index-left-i.result c.index-right-j.result c.requires.left_place c.requires.right_place (search rules) (search rules)
    [] (column_places c.args.i c.args.j count) count (no_later _ _ c.if-lo_at_most.ensures.answer)
    (reach_of-tail g.E.Envelope.lo g.E.Envelope.hi _ c.args.left.now c.args.i count c.reach-count-else-lo_at_most.ensures.value) refl)
    (length-column_places c.args.i c.args.j count) c.if-lo_at_most.ensures.cost c.reach-count-else-lo_at_most.ensures.cost)
