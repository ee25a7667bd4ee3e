use Rattle.std.proofs.Common.{[], None, sym, subst}
use Rattle.std.proofs.KnownBytes.{Appends-nil}
use Rattle.og_session.specs.Asked.{StepAsks}
use Rattle.og_session.specs.Contents.{effect_of, taken}
use Rattle.og_session.specs.Ends.{StepEnds}
use Rattle.og_session.proofs.AskLemmas.{import-asks, names-ask, open-asks, save-asks}
use Rattle.og_session.proofs.StopLemmas.{step_by_put}
use Rattle.og_session.proofs.StepLemmas.{effect-names, of_names}
use Rattle.og_session.proofs.GrownLemmas.{grown_none}
use Rattle.og_session.proofs.step.done.Goals as goal

pub returns-in-Save-clause-ends : goal.returns-in-Save-clause-ends
returns-in-Save-clause-ends g c start contents holds before state =
    ([], Appends-nil _, subst (λ t. StepEnds start c.args.number before (taken (effect_of contents before t)) c.args.names.now (g.F.Files.folder c.save.new.files) [] c.save.result) (sym c.in-Save.is) (c.save.ensures.ends start c.args.number before state))

pub returns-in-OpenFile-clause-ends : goal.returns-in-OpenFile-clause-ends
returns-in-OpenFile-clause-ends g c start contents holds before state =
    ([], Appends-nil _, subst (λ t. StepEnds start c.args.number before (taken (effect_of contents before t)) c.open.new.names (g.F.Files.folder c.open.new.files) [] c.open.result) (sym c.in-OpenFile.is) (c.open.ensures.ends start contents holds before state))

pub returns-in-ImportFile-clause-ends : goal.returns-in-ImportFile-clause-ends
returns-in-ImportFile-clause-ends g c start contents holds before state =
    ([], Appends-nil _, subst (λ t. StepEnds start c.args.number before (taken (effect_of contents before t)) c.import.new.names (g.F.Files.folder c.import.new.files) [] c.import.result) (sym c.in-ImportFile.is) (c.import.ensures.ends start contents holds before state))

pub returns-in_default-clause-ends : goal.returns-in_default-clause-ends
returns-in_default-clause-ends g c start contents holds before state =
    let of = of_names c.args.typed c.in_default.not-Save c.in_default.not-OpenFile c.in_default.not-ImportFile in
    let ends = c.on_names.ensures.ends of start c.args.number before (g.F.Files.folder c.args.files.now) state in
    (ends.0, ends.1, subst (λ o. StepEnds start c.args.number before (taken o) c.on_names.new.names (g.F.Files.folder c.args.files.now) ends.0 c.on_names.result) (sym (effect-names start c.args.number before contents c.args.typed of)) ends.2)

pub returns-in_default-clause-late : goal.returns-in_default-clause-late
returns-in_default-clause-late g c = step_by_put c.on_names.result c.on_names.ensures.stops

pub returns-in-Save-clause-grown : goal.returns-in-Save-clause-grown
returns-in-Save-clause-grown g c = grown_none _

pub returns-in-OpenFile-clause-grown : goal.returns-in-OpenFile-clause-grown
returns-in-OpenFile-clause-grown g c = grown_none _

pub returns-in-ImportFile-clause-grown : goal.returns-in-ImportFile-clause-grown
returns-in-ImportFile-clause-grown g c = grown_none _

pub returns-in-Save-clause-asked : goal.returns-in-Save-clause-asked
returns-in-Save-clause-asked g c contents before =
    subst (λ t. StepAsks (taken (effect_of contents before t)) c.save.result (g.F.Files.calls c.args.files.now) (g.F.Files.calls c.save.new.files)) (sym c.in-Save.is)
    (save-asks contents before c.in-Save.name c.in-Save.file c.save.result _ _ c.save.ensures.asked)

pub returns-in-OpenFile-clause-asked : goal.returns-in-OpenFile-clause-asked
returns-in-OpenFile-clause-asked g c contents before =
    subst (λ t. StepAsks (taken (effect_of contents before t)) c.open.result (g.F.Files.calls c.args.files.now) (g.F.Files.calls c.open.new.files)) (sym c.in-OpenFile.is)
    (open-asks contents before _ _ c.open.result _ _ c.open.ensures.asked)

pub returns-in-ImportFile-clause-asked : goal.returns-in-ImportFile-clause-asked
returns-in-ImportFile-clause-asked g c contents before =
    subst (λ t. StepAsks (taken (effect_of contents before t)) c.import.result (g.F.Files.calls c.args.files.now) (g.F.Files.calls c.import.new.files)) (sym c.in-ImportFile.is)
    (import-asks contents before _ _ c.import.result _ _ c.import.ensures.asked)

pub returns-in_default-clause-asked : goal.returns-in_default-clause-asked
returns-in_default-clause-asked g c contents before =
    let of = of_names c.args.typed c.in_default.not-Save c.in_default.not-OpenFile c.in_default.not-ImportFile in
    subst (λ o. StepAsks (taken o) c.on_names.result (g.F.Files.calls c.args.files.now) (g.F.Files.calls c.args.files.now)) (sym (effect-names (λ _. None) c.args.number before contents c.args.typed of)) (names-ask (c.args.typed, of) c.on_names.result _)
