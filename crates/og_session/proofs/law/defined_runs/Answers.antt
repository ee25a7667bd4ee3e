use Rattle.og_script.proofs.Scripts.{Laws, no_fault}
use Rattle.og_session.proofs.OneRun.{run_of_no_command, run_of_no_script, run_of_script}
use Rattle.og_session.proofs.law.defined_runs.Goals as goal

pub returns : goal.returns
returns c =
    let laws : Laws = record {
      one_list = c.one_list_a_script.ensures.one_list;
      whole_list = c.tokens_or_a_fault.ensures.apart;
      one_lex_fault = c.tokens_or_a_fault.ensures.one_fault;
      one_tree = c.one_tree.ensures.script;
      whole_tree = c.tree_or_fault.ensures.apart;
      one_parse_fault = c.tree_or_fault.ensures.one_fault;
    } in record {
      no_command = run_of_no_command laws c.one_command.ensures;
      no_script = run_of_no_script laws c.one_command.ensures;
      script = run_of_script laws c.one_command.ensures;
      no_fault = no_fault laws;
      command = c.one_command.ensures;
    }
