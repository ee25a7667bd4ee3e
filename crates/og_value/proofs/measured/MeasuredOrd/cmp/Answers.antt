use Rattle.std.proofs.Common.{ap₂, ◌∙◌}
use Rattle.std.specs.Cmp.Lexicographic.{slice_cmp}
use Rattle.og_value.proofs.measured.MeasuredOrd.cmp.Goals as goal

pub returns : goal.returns
returns g c = c.cmp.ensures ∙ ap₂ (slice_cmp g.T.Ord.cmp) c.self.view_is c.other.view_is
