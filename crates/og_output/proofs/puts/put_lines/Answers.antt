use Rattle.std.proofs.Common.{◌∙◌, ap, subst}
use Rattle.std.specs.Io.KnownBytes.{Appends}
use Rattle.std.specs.List.{flat_map}
use Rattle.std.proofs.lemmas.List.{take_all}
use Rattle.std.proofs.lemmas.Result.{err_from_is_err_and}
use Rattle.og_plan.specs.Text.{line_text}
use Rattle.og_faults.proofs.CountLemmas.{fault_after}
use Rattle.og_output.proofs.PutLemmas.{one_put, one_refused}
use Rattle.og_output.proofs.puts.put_lines.Goals as goal

pub returns-in_err-put_line-clause-put : goal.returns-in_err-put_line-clause-put
returns-in_err-put_line-clause-put g c =
    let p = err_from_is_err_and c.from_residual.result c.from_residual.ensures.1 in
    rw (p.1, p.2) (one_refused line_text _ _ _ c.args.lines.now c.lines.line-index c.line-item.result c.lines-test.true c.line-item.is c.lines.invariant.put c.in_err-put_line.field-0.0 c.in_err-put_line.ensures.put)

pub lines-preserved : goal.lines-preserved
lines-preserved g c = record {
  put = one_put line_text _ _ _ c.args.lines.now c.lines.line-index c.line-item.result c.lines-test.true c.line-item.is c.lines.invariant.put c.in_ok-put_line.ensures.put;
  stays = c.in_ok-put_line.ensures.counted ∙ c.lines.invariant.stays;
}

pub returns-clause-put : goal.returns-clause-put
returns-clause-put g c =
    subst (Appends (g.K.Sink.written c.args.out.now) (g.K.Sink.written c.lines.out)) (ap (flat_map line_text) (take_all c.lines.line-index c.args.lines.now c.lines-test.false)) c.lines.invariant.put

pub returns-in_err-put_line-clause-counted : goal.returns-in_err-put_line-clause-counted
returns-in_err-put_line-clause-counted g c =
    let p = err_from_is_err_and c.from_residual.result c.from_residual.ensures.1 in
    rw (p.1, p.2) (fault_after _ _ _ _ c.lines.invariant.stays c.in_err-put_line.ensures.counted)
