use Rattle.std.proofs.Common.{◌∙◌, sym}
use Rattle.std.proofs.lemmas.Bool.Decides.{Decides-int_eq}
use Rattle.og_base.specs.Calendar.{first_day}
use Rattle.og_base.proofs.SetTexts.{lower_text-infinity}
use Rattle.og_output.proofs.records.lower_end.Goals as goal

pub returns-then-eq : goal.returns-then-eq
returns-then-eq c = lower_text-infinity c.args.lo ((Decides-int_eq c.args.lo first_day).0 (sym c.eq.ensures ∙ c.if-eq.true))
