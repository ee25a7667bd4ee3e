use Rattle.std.proofs.Common.{Err, ◌∙◌, ap, subst}
use Rattle.std.specs.Io.KnownBytes.{Appends}
use Rattle.std.specs.List.{flat_map}
use Rattle.std.proofs.lemmas.List.{take_all}
use Rattle.std.proofs.lemmas.Result.{err_from_is_err_and}
use Rattle.og_faults.proofs.CountLemmas.{fault_after}
use Rattle.og_output.specs.Puts.{IsPut}
use Rattle.og_output.proofs.PutLemmas.{one_put, one_refused}
use Rattle.og_output.proofs.puts.put_texts.Goals as goal

pub returns-in_err-put-clause-put : goal.returns-in_err-put-clause-put
returns-in_err-put-clause-put g c =
    let p = err_from_is_err_and c.from_residual.result c.from_residual.ensures.1 in
    let refused = subst (λ t. IsPut (g.K.Sink.written c.texts.out) (g.K.Sink.written c.put.new.out) t (Err c.in_err-put.field-0.0)) c.as_slice.ensures.value c.in_err-put.ensures.put in
    rw (p.1, p.2) (one_refused (λ text. text.items) _ _ _ c.args.texts.now c.texts.text-index c.text-item.result c.texts-test.true c.text-item.is c.texts.invariant.put c.in_err-put.field-0.0 refused)

pub texts-preserved : goal.texts-preserved
texts-preserved g c =
    let put = subst (Appends (g.K.Sink.written c.texts.out) (g.K.Sink.written c.put.new.out)) c.as_slice.ensures.value c.in_ok-put.ensures.put in
    record {
      put = one_put (λ text. text.items) _ _ _ c.args.texts.now c.texts.text-index c.text-item.result c.texts-test.true c.text-item.is c.texts.invariant.put put;
      stays = c.in_ok-put.ensures.counted ∙ c.texts.invariant.stays;
    }

pub returns-clause-put : goal.returns-clause-put
returns-clause-put g c =
    subst (Appends (g.K.Sink.written c.args.out.now) (g.K.Sink.written c.texts.out)) (ap (flat_map (λ text. text.items)) (take_all c.texts.text-index c.args.texts.now c.texts-test.false)) c.texts.invariant.put

pub returns-in_err-put-clause-counted : goal.returns-in_err-put-clause-counted
returns-in_err-put-clause-counted g c =
    let p = err_from_is_err_and c.from_residual.result c.from_residual.ensures.1 in
    rw (p.1, p.2) (fault_after _ _ _ _ c.texts.invariant.stays c.in_err-put.ensures.counted)
