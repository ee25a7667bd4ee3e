use Rattle.std.proofs.Common.{◌∙◌, ◌++◌, ap}
use Rattle.std.proofs.lemmas.Result.{on_ok_weaker}
use Rattle.og_value.proofs.CellTexts.{fixed_period_text}
use Rattle.og_value.proofs.cell.write_fixed_period.Goals as goal

pub returns-clause-written : goal.returns-clause-written
returns-clause-written c =
    on_ok_weaker c.write_period.result (λ e. e ∙ ap (λ text. c.args.out.now.items ++ text)
    (fixed_period_text c.args.period.start c.args.period.end _ _ _ c.fixed_point-start.ensures c.fixed_point-end.ensures c.new.ensures.ends)) c.write_period.ensures.written
