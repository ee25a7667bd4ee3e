use Rattle.og_base.proofs.BoundaryLemmas.{Rises-normal, ranges_of-normal}
use Rattle.og_base.proofs.SetOpLemmas.{holds_day-four}
use Rattle.og_base.proofs.rt_set.meet_cuts.Goals as goal

pub meet_four-requires-clause-first_rises : goal.meet_four-requires-clause-first_rises
meet_four-requires-clause-first_rises c = rw c.as_slice.ensures (Rises-normal _ _ c.cut_boundaries-a.ensures.boundaries c.cut_boundaries-a.ensures.normal)

pub meet_four-requires-clause-second_rises : goal.meet_four-requires-clause-second_rises
meet_four-requires-clause-second_rises c = rw c.as_slice-2.ensures (Rises-normal _ _ c.cut_boundaries-b.ensures.boundaries c.cut_boundaries-b.ensures.normal)

pub meet_four-requires-clause-third_rises : goal.meet_four-requires-clause-third_rises
meet_four-requires-clause-third_rises c = rw c.as_slice-3.ensures (Rises-normal _ _ c.cut_boundaries-c.ensures.boundaries c.cut_boundaries-c.ensures.normal)

pub meet_four-requires-clause-fourth_rises : goal.meet_four-requires-clause-fourth_rises
meet_four-requires-clause-fourth_rises c = rw c.as_slice-4.ensures (Rises-normal _ _ c.cut_boundaries-d.ensures.boundaries c.cut_boundaries-d.ensures.normal)

pub returns : goal.returns
returns c d =
    let first = c.cut_boundaries-a.ensures in
    let second = c.cut_boundaries-b.ensures in
    let third = c.cut_boundaries-c.ensures in
    let fourth = c.cut_boundaries-d.ensures in
    let four = holds_day-four _ _ _ _ c.in_ok-boundaries.boundaries
    (Rises-normal _ _ first.boundaries first.normal)
    (Rises-normal _ _ second.boundaries second.normal)
    (Rises-normal _ _ third.boundaries third.normal)
    (Rises-normal _ _ fourth.boundaries fourth.normal)
    c.in_ok-boundaries.ensures.rises (rw (c.as_slice.ensures, c.as_slice-2.ensures, c.as_slice-3.ensures, c.as_slice-4.ensures) at c.in_ok-boundaries.ensures.holds) d in
    rw (ranges_of-normal _ _ first.boundaries first.normal, ranges_of-normal _ _ second.boundaries second.normal, ranges_of-normal _ _ third.boundaries third.normal, ranges_of-normal _ _ fourth.boundaries fourth.normal) at four
