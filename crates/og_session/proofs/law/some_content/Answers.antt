use Rattle.og_session.proofs.ContentLemmas.{Choices, some_content}
use Rattle.og_session.proofs.law.some_content.Goals as goal

pub returns : goal.returns
returns c =
    let choices : Choices = record { saved = c.each_saved_file_or_fault.ensures; table = c.each_table_file_or_fault.ensures } in some_content choices
