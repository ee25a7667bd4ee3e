use Rattle.std.proofs.Common.{◌∙◌, ◌++◌, sym, ap}
use Rattle.og_base.proofs.DayTexts.{day_text-first, day_text-last}
use Rattle.og_base.proofs.text.write_end.Goals as goal

pub returns-in_ok-extend_from_slice-clause-written :
    goal.returns-in_ok-extend_from_slice-clause-written
returns-in_ok-extend_from_slice-clause-written c =
    c.in_ok-extend_from_slice.ensures.items ∙ ap (λ t. c.args.out.now.items ++ t) (sym (day_text-first c.args.end (sym c.eq.ensures ∙ c.if-eq.true)))

pub returns-in_ok-extend_from_slice-2-clause-written :
    goal.returns-in_ok-extend_from_slice-2-clause-written
returns-in_ok-extend_from_slice-2-clause-written c =
    c.in_ok-extend_from_slice-2.ensures.items ∙ ap (λ t. c.args.out.now.items ++ t) (sym (day_text-last c.args.end c.requires (sym c.eq.ensures ∙ c.if-eq.false)))
