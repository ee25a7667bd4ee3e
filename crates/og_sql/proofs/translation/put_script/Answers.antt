use Rattle.std.proofs.Common.{[], subst, sym}
use Rattle.std.proofs.lemmas.Result.{err_from_is_err_and}
use Rattle.og_script.proofs.Scripts.{Laws}
use Rattle.og_session.specs.Runs.{run_from}
use Rattle.og_sql.specs.Translations.{IsCarried, run_words}
use Rattle.og_sql.proofs.ScriptSteps.{run_command, script-read, script-stopped}
use Rattle.og_sql.proofs.translation.put_script.Goals as goal

pub script_of-requires-clause-command : goal.script_of-requires-clause-command
script_of-requires-clause-command g c = (run_words, run_command)

pub returns-in_err-stmts-clause-carried : goal.returns-in_err-stmts-clause-carried
returns-in_err-stmts-clause-carried g c source start it stmts left folder defined are =
    let p = err_from_is_err_and c.from_residual.result c.from_residual.ensures.1 in
    let laws : Laws = record {
      one_list = c.one_list_a_script.ensures.one_list;
      whole_list = c.tokens_or_a_fault.ensures.apart;
      one_lex_fault = c.tokens_or_a_fault.ensures.one_fault;
      one_tree = c.one_tree.ensures.script;
      whole_tree = c.tree_or_fault.ensures.apart;
      one_parse_fault = c.tree_or_fault.ensures.one_fault;
    } in
    rw (p.1, p.2)
    (script-stopped laws c.one_command.ensures source start stmts it defined are c.in_err-stmts.field-0.0 c.args.text.now.items c.in_err-stmts.ensures.stops (c.in_err-stmts.ensures.stopped source (λ _. left)) c.requires.no_text)

pub returns-clause-carried : goal.returns-clause-carried
returns-clause-carried g c source start it stmts left folder defined are =
    let laws : Laws = record {
      one_list = c.one_list_a_script.ensures.one_list;
      whole_list = c.tokens_or_a_fault.ensures.apart;
      one_lex_fault = c.tokens_or_a_fault.ensures.one_fault;
      one_tree = c.one_tree.ensures.script;
      whole_tree = c.tree_or_fault.ensures.apart;
      one_parse_fault = c.tree_or_fault.ensures.one_fault;
    } in
    let read = c.in_ok-stmts.stmts in
    let (contents, holds, e, same) = script-read laws c.one_command.ensures source start stmts it defined are read (c.in_ok-stmts.ensures.script source (λ _. left)) in
    subst (λ r. IsCarried stmts r c.put_pieces.result c.put_pieces.new.text.items) (sym e)
    (subst (λ s. IsCarried s (run_from contents 1 [] read) c.put_pieces.result c.put_pieces.new.text.items) (sym same) (c.put_pieces.ensures.carried start contents folder holds))
