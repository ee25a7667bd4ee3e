use Rattle.std.proofs.Common.{◌++◌, ◌∷◌, [], ◌∙◌}
use Rattle.og_report.proofs.ReportLemmas.{placed}
use Rattle.og_report.proofs.message.marked_text.Goals as goal

pub returns : goal.returns
returns c =
    let position = c.position_of-position.result in
    let rest = c.args.words.now ++ (10 ∷ c.as_str-lines.result.now) in
    (position, c.position_of-position.ensures, (rest, c.in_ok-format.ensures.ok ∙ placed position.line position.column rest))
