use Rattle.std.proofs.Common.{codes, ◌++◌, ◌∙◌}
use Rattle.std.specs.Fmt.{decimal}
use Rattle.og_faults.proofs.LineLemmas.{line-between}
use Rattle.og_faults.proofs.lines.rows_line.Goals as goal

pub returns : goal.returns
returns c =
    c.in_ok-line.ensures.ok ∙ line-between (codes "fault row count statement ") c.args.statement (codes "said " ++ decimal c.args.said) (codes " found ") (decimal c.args.found)
