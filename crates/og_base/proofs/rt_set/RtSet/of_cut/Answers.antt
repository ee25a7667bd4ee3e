use Rattle.og_base.proofs.BoundaryLemmas.{Rises-normal, ranges_of-normal}
use Rattle.og_base.proofs.rt_set.RtSet.of_cut.Goals as goal

pub of_boundaries-requires : goal.of_boundaries-requires
of_boundaries-requires c =
    let cut = c.cut_boundaries-few.ensures in
    rw c.of.ensures (Rises-normal _ _ cut.boundaries cut.normal)

pub returns : goal.returns
returns c =
    let cut = c.cut_boundaries-few.ensures in
    rw (c.of_boundaries.ensures, c.of.ensures) (ranges_of-normal _ _ cut.boundaries cut.normal)
