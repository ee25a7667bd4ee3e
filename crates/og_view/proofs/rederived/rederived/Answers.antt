use Rattle.std.proofs.Common.{[]}
use Rattle.og_exec.specs.Tables.{rows_on}
use Rattle.og_db.specs.Deltas.{rest_at}
use Rattle.og_db.specs.Held.{rows_of}
use Rattle.og_view.specs.Again.{passing_rows}
use Rattle.og_view.proofs.MoreLemmas.{gathered_next}
use Rattle.og_view.proofs.rederived.rederived.Goals as goal

pub cores-preserved : goal.cores-preserved
cores-preserved g c d day =
    let i = c.cores.core-index in
    let core = c.core-item.result in
    gathered_next (passing_rows d (rows_of (rest_at c.args.over.now.name.now c.args.over.now.delta.now c.args.over.now.tables.now)) c.args.sieve.now) [] (rows_on c.cores.again d) (rows_on c.add_rederived.new.again d) c.args.cores.now i core c.cores-test.true c.core-item.is
    (c.cores.invariant d day) (c.in_ok-add_rederived.ensures d day)
