use Rattle.og_lex.proofs.Scripts.{decided, apart, one_fault}
use Rattle.og_lex.proofs.laws.tokens_or_a_fault.Goals as goal

pub returns-clause-some : goal.returns-clause-some
returns-clause-some c = decided

pub returns-clause-apart : goal.returns-clause-apart
returns-clause-apart c = apart

pub returns-clause-one_fault : goal.returns-clause-one_fault
returns-clause-one_fault c = one_fault
