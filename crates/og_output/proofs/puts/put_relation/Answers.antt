use Rattle.std.proofs.Common.{ap, subst}
use Rattle.std.proofs.lemmas.Result.{err_from_is_err_and}
use Rattle.og_output.specs.Puts.{IsPut}
use Rattle.og_output.specs.Records.{layout}
use Rattle.og_output.proofs.PutLemmas.{none_of}
use Rattle.og_output.proofs.puts.put_relation.Goals as goal

pub returns-in_err-rows-clause-put : goal.returns-in_err-rows-clause-put
returns-in_err-rows-clause-put g c =
    let p = err_from_is_err_and c.from_residual.result c.from_residual.ensures.1 in
    rw (p.1, p.2) (none_of (g.K.Sink.written c.args.out.now) _)

pub returns-clause-put : goal.returns-clause-put
returns-clause-put g c =
    subst (λ t. IsPut (g.K.Sink.written c.args.out.now) (g.K.Sink.written c.put_layout.new.out) t c.put_layout.result) (ap (layout c.args.columns.now) c.in_ok-rows.ensures.rows) c.put_layout.ensures.put
