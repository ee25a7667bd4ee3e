use Rattle.std.proofs.Common.{Some, sym, ap, ◌∙◌}
use Rattle.std.specs.Cmp.Lexicographic.{lists_agrees}
use Rattle.og_value.proofs.measured.MeasuredPartialOrd.partial_cmp.Goals as goal

pub returns : goal.returns
returns g c = ap Some c.cmp.ensures ∙ sym (lists_agrees g.met.T.Ord.matches_partial_cmp c.args.self.now c.args.other.now)
