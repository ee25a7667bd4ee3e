use Rattle.std.proofs.Common.{◌≡◌, IfOk, subst, ap, sym, ◌∙◌}
use Rattle.og_plan.specs.Parts.{parts_of}
use Rattle.og_plan.proofs.PartEquations.{parts_of-And, parts_of-other}
use Rattle.og_plan.proofs.parts.+parts.Goals as goal

pub parts_of-returns-in-And : goal.parts_of-returns-in-And
parts_of-returns-in-And t c = subst (λ found. IfOk c.all_parts.result (λ parts. parts ≡ found)) (sym (parts_of-And c.in-And.conds) ∙ ap parts_of (sym c.in-And.is)) c.all_parts.ensures

pub parts_of-returns-in_default : goal.parts_of-returns-in_default
parts_of-returns-in_default t c = subst (λ found. IfOk c.one_part.result (λ parts. parts ≡ found)) (sym (parts_of-other c.args.cond.now c.in_default.not-And)) c.one_part.ensures
