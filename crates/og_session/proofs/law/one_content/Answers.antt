use Rattle.og_session.proofs.ContentLemmas.{Laws, one_content}
use Rattle.og_session.proofs.law.one_content.Goals as goal

pub returns : goal.returns
returns c =
    let laws : Laws = record {
      one_saved = c.one_saved_file.ensures;
      one_table = c.one_table_file.ensures;
      whole_saved = c.no_fault_of_a_saved_file.ensures;
      whole_table = c.no_fault_of_a_table_file.ensures;
      one_saved_fault = c.one_fault_of_a_saved_file.ensures;
      one_table_fault = c.one_fault_of_a_table_file.ensures;
    } in one_content laws
