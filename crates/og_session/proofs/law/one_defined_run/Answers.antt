use Rattle.og_script.proofs.Scripts.{Choices, Laws, script_or_fault}
use Rattle.og_session.proofs.OneRun.{one_run, some_run}
use Rattle.og_session.proofs.law.one_defined_run.Goals as goal

pub returns : goal.returns
returns c =
    let laws : Laws = record {
      one_list = c.one_list_a_script.ensures.one_list;
      whole_list = c.tokens_or_a_fault.ensures.apart;
      one_lex_fault = c.tokens_or_a_fault.ensures.one_fault;
      one_tree = c.one_tree.ensures.script;
      whole_tree = c.tree_or_fault.ensures.apart;
      one_parse_fault = c.tree_or_fault.ensures.one_fault;
    } in
    let choices : Choices = record { some_list = c.tokens_or_a_fault.ensures.some; some_tree = c.tree_or_fault.ensures.some } in record {
      some = some_run c.command_or_none.ensures (script_or_fault choices) c.some_content.ensures;
      one = one_run laws c.one_command.ensures c.one_content.ensures;
    }
