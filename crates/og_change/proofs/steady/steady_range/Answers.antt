use Rattle.std.proofs.Common.{refl, rules}
use Rattle.std.proofs.lemmas.List.{take_all}
use Rattle.og_change.proofs.AroundLemmas.{around-same, begin_before}
use Rattle.og_change.proofs.StayLemmas.{stay_more}
use Rattle.og_change.proofs.steady.steady_range.Goals as goal

pub rows-init : goal.rows-init
rows-init g c = around-same _ _ c.args.d c.around-range.result (λ e r k. refl) c.around-range.ensures.one

pub shared-range-requires : goal.shared-range-requires
shared-range-requires g c =
    let begin = begin_before c.rows.range c.in_ok-steady.steady c.args.d c.rows.invariant.around c.in_ok-steady.ensures.around in
    record { first_begins = begin.0; second_begins = begin.1 }

pub rows-preserved : goal.rows-preserved
rows-preserved g c =
    stay_more g.R.Instant.meaning c.args.rel.now c.rows.i c.row.result.now c.days.result.now c.args.d c.rows.range c.in_ok-steady.steady c.shared-range.result (search rules) c.row.ensures c.days.ensures
    c.rows.invariant c.in_ok-steady.ensures c.shared-range.ensures.range c.shared-range.ensures.days

pub returns : goal.returns
returns g c =
    let all = take_all c.rows.i c.args.rel.now (search rules) in
    rw all at c.rows.invariant
