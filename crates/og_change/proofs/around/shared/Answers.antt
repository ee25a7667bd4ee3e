use Rattle.std.proofs.Common.{◌<ℤ◌}
use Rattle.og_base.specs.Ranges.{Range}
use Rattle.og_change.proofs.AroundLemmas.{in_range-shared, IsRange-shared}
use Rattle.og_change.proofs.around.shared.Goals as goal

pub invariant_of-result : goal.invariant_of-result
invariant_of-result c =
    let a : Range = record { lo = c.first.inside.lo; hi = c.first.inside.hi } in
    let b : Range = record { lo = c.second.inside.lo; hi = c.second.inside.hi } in
    let both : Range = record { lo = c.later-lo.result; hi = c.earlier-hi.result } in
    let f : a.lo <ℤ b.hi = rw (← c.first.view_is, ← c.second.view_is) at c.requires.first_begins in
    let g : b.lo <ℤ a.hi = rw (← c.first.view_is, ← c.second.view_is) at c.requires.second_begins in
    IsRange-shared a b both c.first.invariant c.second.invariant f g c.later-lo.ensures.one c.earlier-hi.ensures.one

pub returns-clause-range : goal.returns-clause-range
returns-clause-range c =
    let a : Range = record { lo = c.first.inside.lo; hi = c.first.inside.hi } in
    let b : Range = record { lo = c.second.inside.lo; hi = c.second.inside.hi } in
    let both : Range = record { lo = c.later-lo.result; hi = c.earlier-hi.result } in
    let f : a.lo <ℤ b.hi = rw (← c.first.view_is, ← c.second.view_is) at c.requires.first_begins in
    let g : b.lo <ℤ a.hi = rw (← c.first.view_is, ← c.second.view_is) at c.requires.second_begins in
    IsRange-shared a b both c.first.invariant c.second.invariant f g c.later-lo.ensures.one c.earlier-hi.ensures.one

pub returns-clause-days : goal.returns-clause-days
returns-clause-days c =
    let a : Range = record { lo = c.first.inside.lo; hi = c.first.inside.hi } in
    let b : Range = record { lo = c.second.inside.lo; hi = c.second.inside.hi } in
    let both : Range = record { lo = c.later-lo.result; hi = c.earlier-hi.result } in
    rw (← c.first.view_is, ← c.second.view_is)
    (in_range-shared a b both c.later-lo.ensures.after_first c.later-lo.ensures.after_second c.later-lo.ensures.one c.earlier-hi.ensures.before_first c.earlier-hi.ensures.before_second c.earlier-hi.ensures.one)
