use Rattle.std.proofs.Common.{None, subst, sym}
use Rattle.og_session.specs.Contents.{effect_of, taken}
use Rattle.og_session.proofs.StepLemmas.{effect-names, of_names}
use Rattle.og_sql.specs.Translations.{StepEnds}
use Rattle.og_sql.proofs.step.put_typed.Goals as goal

pub put_named-requires-clause-of : goal.put_named-requires-clause-of
put_named-requires-clause-of g c = of_names c.args.typed.now c.in_default.not-Save c.in_default.not-OpenFile c.in_default.not-ImportFile

pub returns-in-Save-clause-ends : goal.returns-in-Save-clause-ends
returns-in-Save-clause-ends g c start contents before held =
    subst (λ t. StepEnds c.args.context.number before (taken (effect_of contents before t)) c.put_save_of.new.outline c.put_save_of.result) (sym c.in-Save.is) (c.put_save_of.ensures.ends start contents before _ held)

pub returns-in-OpenFile-clause-ends : goal.returns-in-OpenFile-clause-ends
returns-in-OpenFile-clause-ends g c start contents before held =
    subst (λ t. StepEnds c.args.context.number before (taken (effect_of contents before t)) c.put_open.new.outline c.put_open.result) (sym c.in-OpenFile.is) (c.put_open.ensures.ends start contents before held)

pub returns-in-ImportFile-clause-ends : goal.returns-in-ImportFile-clause-ends
returns-in-ImportFile-clause-ends g c start contents before held =
    subst (λ t. StepEnds c.args.context.number before (taken (effect_of contents before t)) c.args.outline.now c.put_import.result) (sym c.in-ImportFile.is) (c.put_import.ensures.ends start contents before held)

pub returns-in_default-clause-ends : goal.returns-in_default-clause-ends
returns-in_default-clause-ends g c start contents before held =
    let of = of_names c.args.typed.now c.in_default.not-Save c.in_default.not-OpenFile c.in_default.not-ImportFile in
    subst (λ o. StepEnds c.args.context.number before (taken o) c.put_named.new.outline c.put_named.result) (sym (effect-names (λ _. None) c.args.context.number before contents c.args.typed.now of))
    (c.put_named.ensures.ends of c.args.context.number start contents before _ held)
