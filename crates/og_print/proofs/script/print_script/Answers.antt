use Rattle.std.proofs.Common.{sym, subst}
use Rattle.og_print.specs.Printed.{IsTextOf, IsPrinted}
use Rattle.og_print.proofs.PrintedScripts.{script_read, script_printed, if_ok_more}
use Rattle.og_print.proofs.script.print_script.Goals as goal

pub returns : goal.returns
returns c = record {
  text = c.write_stmts.ensures;
  form = if_ok_more c.write_stmts.result _ _ (λ text e. subst IsPrinted (sym e) (script_printed c.args.script.now.stmts c.requires.printable)) c.write_stmts.ensures;
  again = if_ok_more c.write_stmts.result _ _ (λ text e. subst (λ z. IsTextOf z c.args.script.now.stmts) (sym e) (script_read c.args.script.now.stmts c.requires.printable)) c.write_stmts.ensures;
}
