use Rattle.std.proofs.Common.{◌∙◌, ap, subst}
use Rattle.std.specs.List.{flat_map}
use Rattle.std.proofs.lemmas.Result.{err_from_is_err_and}
use Rattle.og_output.specs.Puts.{IsPut}
use Rattle.og_output.proofs.PutLemmas.{none_of, texts_of}
use Rattle.og_output.proofs.puts.put_round.Goals as goal

pub returns-in_err-texts-clause-put : goal.returns-in_err-texts-clause-put
returns-in_err-texts-clause-put g c =
    let p = err_from_is_err_and c.from_residual.result c.from_residual.ensures.1 in
    rw (p.1, p.2) (none_of (g.K.Sink.written c.args.out.now) _)

pub returns-clause-put : goal.returns-clause-put
returns-clause-put g c =
    let whole = ap (flat_map (λ text. text.items)) c.as_slice.ensures.value ∙ texts_of _ _ c.in_ok-texts.ensures in
    subst (λ t. IsPut (g.K.Sink.written c.args.out.now) (g.K.Sink.written c.put_texts.new.out) t c.put_texts.result) whole c.put_texts.ensures.put
