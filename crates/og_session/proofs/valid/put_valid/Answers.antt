use Rattle.std.proofs.Common.{◌∙◌, ap, subst}
use Rattle.og_output.specs.Records.{range_records}
use Rattle.og_output.specs.Puts.{IsPut}
use Rattle.og_session.proofs.GrownLemmas.{grown_by_put}
use Rattle.og_session.proofs.valid.put_valid.Goals as goal

pub returns-clause-put : goal.returns-clause-put
returns-clause-put g c files before world =
    let text = c.as_slice.ensures.value ∙ c.in_ok-range_text.ensures ∙ ap range_records (c.in_ok-range.ensures files before world) in
    subst (λ t. IsPut (g.K.Sink.written c.args.out.now) (g.K.Sink.written c.put.new.out) t c.put.result) text c.put.ensures.put

pub returns-clause-grown : goal.returns-clause-grown
returns-clause-grown g c = grown_by_put _ _ _ c.put.result c.put.ensures.put
