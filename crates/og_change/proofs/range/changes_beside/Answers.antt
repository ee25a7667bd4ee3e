use Rattle.std.proofs.Common.{◌≡◌, ◌↔◌, IsTrue, subst, ◌∙◌}
use Rattle.og_base.specs.Ranges.{Range}
use Rattle.og_rel.specs.Relations.{relation_at}
use Rattle.og_change.proofs.BoundLemmas.{IsSoOn, bounded-not, bounded-after}
use Rattle.og_change.proofs.range.changes_beside.Goals as goal

pub returns-then-branch : goal.returns-then-branch
returns-then-branch g c =
    let relation = relation_at g.R.Fixed.Ord.cmp g.R.Instant.meaning c.args.rel.now in
    let range : Range = record { lo = c.range.inside.lo; hi = c.range.inside.hi } in
    let before = c.day_before.result in
    let told = subst (λ rows. IsTrue c.in_ok-has_list.field-0 ↔ IsSoOn (λ e. relation e ≡ rows) before) (c.as_slice.ensures.value ∙ c.in_ok-rows.ensures) c.in_ok-has_list.ensures in
    rw (← c.range.view_is) (bounded-not (λ e. relation e ≡ relation c.args.d) range before c.in_ok-has_list.field-0 c.day_before.ensures told c.if-branch.true)

pub returns : goal.returns
returns g c =
    let relation = relation_at g.R.Fixed.Ord.cmp g.R.Instant.meaning c.args.rel.now in
    let range : Range = record { lo = c.range.inside.lo; hi = c.range.inside.hi } in
    let before = c.day_before.result in
    let after = c.as_ref_day.result in
    let told = subst (λ rows. IsTrue c.in_ok-has_list.field-0 ↔ IsSoOn (λ e. relation e ≡ rows) before) (c.as_slice.ensures.value ∙ c.in_ok-rows.ensures) c.in_ok-has_list.ensures in
    let told_after = subst (λ rows. IsTrue c.in_ok-has_list-2.field-0 ↔ IsSoOn (λ e. relation e ≡ rows) after) (c.as_slice-2.ensures.value ∙ c.in_ok-rows.ensures) c.in_ok-has_list-2.ensures in
    rw (← c.range.view_is)
    (bounded-after (λ e. relation e ≡ relation c.args.d) range before after c.in_ok-has_list.field-0 c.in_ok-has_list-2.field-0 c.day_before.ensures c.as_ref_day.ensures told told_after c.if-branch.false)
