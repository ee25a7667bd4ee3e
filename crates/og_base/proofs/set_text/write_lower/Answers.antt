use Rattle.std.proofs.Common.{◌∙◌, sym}
use Rattle.std.proofs.lemmas.Bool.Decides.{Decides-int_eq}
use Rattle.og_base.specs.Calendar.{first_day}
use Rattle.og_base.proofs.SetTexts.{lower_text-infinity}
use Rattle.og_base.proofs.set_text.write_lower.Goals as goal

pub returns-then-eq-clause-written : goal.returns-then-eq-clause-written
returns-then-eq-clause-written c =
    let first = (Decides-int_eq c.args.lo first_day).0 (sym c.eq.ensures ∙ c.if-eq.true) in
    rw (← lower_text-infinity c.args.lo first) c.write_day.ensures.written
