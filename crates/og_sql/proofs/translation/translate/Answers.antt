use Rattle.std.proofs.Common.{subst, sym}
use Rattle.og_sql.specs.Translations.{IsCarried}
use Rattle.og_sql.proofs.translation.translate.Goals as goal

pub returns-clause-written : goal.returns-clause-written
returns-clause-written g c source start it stmts left folder defined are =
    c.write_text-end.ensures.written stmts it
    (subst (IsCarried stmts it c.put_script-done.result) (sym c.as_slice.ensures.value) (c.put_script-done.ensures.carried source start it stmts left folder defined are))
