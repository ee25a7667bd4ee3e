use Rattle.std.proofs.Common.{◌∙◌, ap, sym}
use Rattle.og_base.specs.SetTexts.{set_text}
use Rattle.og_file.proofs.RowLemmas.{some_text}
use Rattle.og_file.proofs.rows.days_one.Goals as goal

pub returns-then-is_empty-clause-none : goal.returns-then-is_empty-clause-none
returns-then-is_empty-clause-none c = λ _ days is.
    some_text days is.0 (sym is.1 ∙ c.in-Ok.ensures.read ∙ ap set_text (c.is_empty.ensures.ranges.0 c.if-is_empty.true))
