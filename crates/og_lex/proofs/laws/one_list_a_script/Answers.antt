use Rattle.og_lex.proofs.Scripts.{one_list}
use Rattle.og_lex.proofs.laws.one_list_a_script.Goals as goal

pub returns : goal.returns
returns c = record { one_list = one_list }
