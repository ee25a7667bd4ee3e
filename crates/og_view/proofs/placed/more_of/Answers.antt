use Rattle.std.proofs.Common.{[]}
use Rattle.og_exec.specs.Tables.{rows_on}
use Rattle.og_view.specs.Placed.{more_rows}
use Rattle.og_view.proofs.MoreLemmas.{gathered_next}
use Rattle.og_view.proofs.placed.more_of.Goals as goal

pub cores-preserved : goal.cores-preserved
cores-preserved g c d day =
    let change = c.args.change.now in
    let i = c.cores.core-index in
    let core = c.core-item.result in
    gathered_next (more_rows d (g.T.Tables.named change.over.now) change.name.now change.new.now) [] (rows_on c.cores.more d) (rows_on c.add.new.more d) c.args.cores.now i core c.cores-test.true c.core-item.is
    (c.cores.invariant d day) (c.in_ok-add.ensures d day)
