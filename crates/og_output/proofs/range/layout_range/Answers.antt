use Rattle.std.proofs.Common.{◌≡◌, subst}
use Rattle.std.proofs.lemmas.Result.{IfOk-weaker}
use Rattle.og_base.specs.Calendar.{IsRefDay}
use Rattle.og_value.specs.Values.{row_at}
use Rattle.og_rel.specs.Relations.{relation_at}
use Rattle.og_change.specs.Same.{IsLongest}
use Rattle.og_output.proofs.RangeLemmas.{Laws, layout_longest}
use Rattle.og_output.proofs.range.layout_range.Goals as goal

pub returns : goal.returns
returns c =
    let day = c.args.day in
    let rel = c.args.rel.now in
    let laws : Laws = record { on_a_day = c.fitting_rows.ensures.on_a_day; one_text = c.one_text_a_cell.ensures.one_text } in
    let is_day = subst IsRefDay c.number.ensures.value c.number.ensures.range in
    IfOk-weaker c.valid_range.result _ _ (λ range l columns kinds.
    layout_longest laws columns rel kinds c.of_calendar.ensures day is_day range
    (subst (λ cmp. IsLongest (λ e. relation_at cmp row_at rel e ≡ relation_at cmp row_at rel day) day range) (λ i x y. c.order_of_rows.ensures.order x y i) l)) c.valid_range.ensures
