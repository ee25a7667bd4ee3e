use Rattle.std.proofs.Common.{rules}
use Rattle.og_exec.proofs.SpanLemmas.{across_tells, across_within}
use Rattle.og_exec.proofs.spans.overlap_in.Goals as goal

pub returns-clause-says : goal.returns-clause-says
returns-clause-says c = across_tells c.across.result c.args.part.now c.args.width _ _ c.across.ensures (search rules)

pub returns-clause-within : goal.returns-clause-within
returns-clause-within c = across_within c.across.result c.args.width _ _ c.across.ensures
