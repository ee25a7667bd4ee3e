use Rattle.std.proofs.Common.{codes, ◌∙◌}
use Rattle.std.specs.Fmt.{decimal}
use Rattle.og_faults.proofs.LineLemmas.{line-between}
use Rattle.og_faults.proofs.lines.counts_line.Goals as goal

pub returns : goal.returns
returns c = c.in_ok-line.ensures.ok ∙ line-between (codes "fault counts differ statement ") c.args.statement (decimal c.args.found) (codes " for ") (decimal c.args.wanted)
