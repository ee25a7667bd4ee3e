use Rattle.std.proofs.Common.{codes, ◌∙◌}
use Rattle.std.specs.Fmt.{decimal}
use Rattle.og_faults.proofs.LineLemmas.{line-between}
use Rattle.og_faults.proofs.lines.many_line.Goals as goal

pub returns : goal.returns
returns c = c.in_ok-line.ensures.ok ∙ line-between (codes "fault too many statement ") c.args.statement (decimal c.args.found) (codes " of ") (decimal c.args.limit)
