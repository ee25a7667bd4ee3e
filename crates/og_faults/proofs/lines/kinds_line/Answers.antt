use Rattle.std.proofs.Common.{codes, ap₂, ◌∙◌}
use Rattle.og_faults.specs.Lines.{numbered_between}
use Rattle.og_faults.proofs.LineLemmas.{line-between}
use Rattle.og_faults.proofs.lines.kinds_line.Goals as goal

pub returns : goal.returns
returns c =
    c.in_ok-line.ensures.ok
    ∙ line-between (codes "fault kinds differ statement ") c.args.statement c.kind_word-found.result.now (codes " for ") c.kind_word-wanted.result.now
    ∙ ap₂ (λ found wanted. numbered_between (codes "fault kinds differ statement ") c.args.statement found (codes " for ") wanted) c.kind_word-found.ensures c.kind_word-wanted.ensures
