use Rattle.std.proofs.Common.{◌∙◌, ap, sym}
use Rattle.og_base.specs.SetTexts.{set_text}
use Rattle.og_file.proofs.RowLemmas.{all_text}
use Rattle.og_file.proofs.rows.all_days.Goals as goal

pub returns-in-Ok-clause-days : goal.returns-in-Ok-clause-days
returns-in-Ok-clause-days c = (
  (λ none. cc (sym c.in-Ok.ensures ∙ none), c.normal.ensures),
  ap set_text c.in-Ok.ensures ∙ all_text,
)
