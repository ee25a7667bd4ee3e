use Rattle.std.proofs.Common.{codes, ◌∙◌}
use Rattle.std.specs.Fmt.{decimal}
use Rattle.og_faults.proofs.LineLemmas.{line-after}
use Rattle.og_faults.proofs.lines.record_line.Goals as goal

pub returns : goal.returns
returns c = c.in_ok-line.ensures.ok ∙ line-after (codes "fault record ") (decimal c.args.number) (codes " statement ") c.args.statement
