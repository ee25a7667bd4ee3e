use Rattle.std.proofs.Common.{◌∙◌, ap, subst}
use Rattle.std.specs.List.{flat_map}
use Rattle.std.proofs.lemmas.Result.{err_from_is_err_and}
use Rattle.og_plan.specs.Text.{line_text, plan_text}
use Rattle.og_output.specs.Puts.{IsPut}
use Rattle.og_output.proofs.PutLemmas.{none_of}
use Rattle.og_output.proofs.puts.put_plan.Goals as goal

pub plan_of-requires-clause-range : goal.plan_of-requires-clause-range
plan_of-requires-clause-range g c = c.fitting_queries.ensures.range c.requires.0 c.args.query.now c.requires.1

pub returns-in_err-plan-clause-put : goal.returns-in_err-plan-clause-put
returns-in_err-plan-clause-put g c =
    let p = err_from_is_err_and c.from_residual.result c.from_residual.ensures.1 in
    rw (p.1, p.2) (none_of (g.K.Sink.written c.args.out.now) _)

pub returns-in_err-lines-clause-put : goal.returns-in_err-lines-clause-put
returns-in_err-lines-clause-put g c =
    let p = err_from_is_err_and c.from_residual-in_err-lines.result c.from_residual-in_err-lines.ensures.1 in
    rw (p.1, p.2) (none_of (g.K.Sink.written c.args.out.now) _)

pub returns-clause-put : goal.returns-clause-put
returns-clause-put g c =
    subst (λ t. IsPut (g.K.Sink.written c.args.out.now) (g.K.Sink.written c.put_lines.new.out) t c.put_lines.result)
    (ap (flat_map line_text) c.as_slice.ensures.value ∙ c.in_ok-lines.ensures ∙ ap plan_text c.in_ok-plan.ensures.plan) c.put_lines.ensures.put
