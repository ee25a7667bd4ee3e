use Rattle.std.proofs.Common.{sym, ◌∙◌}
use Rattle.og_sql.proofs.WriteSteps.{front-written, whole-written}
use Rattle.og_sql.proofs.translation.write_text.Goals as goal

pub returns-in-Err-put-clause-written : goal.returns-in-Err-put-clause-written
returns-in-Err-put-clause-written g c stmts run carried =
    rw c.from-in-Err-put.ensures
    (front-written stmts run c.args.end c.args.pieces.now (sym c.if-is_cut.ensures) carried _ _ c.as_slice.result.now c.in-Err-put.refusal (c.as_slice.ensures.value ∙ c.in-Ok.ensures) c.in-Err-put.ensures.refused)

pub returns-clause-written : goal.returns-clause-written
returns-clause-written g c stmts run carried =
    whole-written stmts run c.args.end c.args.pieces.now (sym c.if-is_cut.ensures) carried _ _ c.as_slice.result.now (c.as_slice.ensures.value ∙ c.in-Ok.ensures) c.in_default.ensures.ok
