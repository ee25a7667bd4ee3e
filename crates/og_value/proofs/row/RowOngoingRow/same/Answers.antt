use Rattle.og_base.specs.Ranges.{holds_day}
use Rattle.og_value.proofs.RowLemmas.{rows_next}
use Rattle.og_value.proofs.row.RowOngoingRow.same.Goals as goal

pub columns-preserved : goal.columns-preserved
columns-preserved c d day =
    let within = c.in_ok-days-2.ensures d day in
    rows_next c.args.self.now c.args.other.now c.columns.i _ _ d (holds_day c.columns.days d) within.0 _
    c.value.ensures c.value-in-columns.ensures within.1 (c.columns.invariant d day) within.2
