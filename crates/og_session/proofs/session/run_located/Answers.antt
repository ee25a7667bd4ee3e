use Rattle.std.proofs.Common.{◌∙◌, ap}
use Rattle.og_session.proofs.EndedLemmas.{same_end}
use Rattle.og_session.proofs.HeadlineLemmas.{headline}
use Rattle.og_session.proofs.session.run_located.Goals as goal

pub returns-clause-headline : goal.returns-clause-headline
returns-clause-headline g c =
    let end = c.run_to_end-end.ensures in
    headline _ c.run_to_end-end.result c.status_of-status.ensures c.one_defined_run.ensures.one c.one_defined_run.ensures.some end.told end.drained end.ended
    (λ early. ((end.before early).0, ap g.F.Files.folder (end.before early).1)) end.reads end.files end.writes end.absences end.grown end.asked end.taken

pub returns-clause-fault : goal.returns-clause-fault
returns-clause-fault g c source start run is left folder defined =
    let end = c.run_to_end-end.ensures in
    let told = end.told source start run (λ r. left) folder defined in
    record {
      fault = λ fault by. same_end run start c.run_to_end-end.new.db (g.F.Files.folder c.run_to_end-end.new.files) told.0 c.run_to_end-end.result fault told.2 by;
      script = end.kept source is left;
    }

pub returns-clause-no_script : goal.returns-clause-no_script
returns-clause-no_script g c none = c.run_to_end-end.ensures.none_kept none ∙ c.new-script.ensures.items
