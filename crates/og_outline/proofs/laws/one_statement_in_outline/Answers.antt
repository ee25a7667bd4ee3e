use Rattle.og_outline.proofs.StatementLemmas.{one_statement}
use Rattle.og_outline.proofs.laws.one_statement_in_outline.Goals as goal

pub returns : goal.returns
returns c = one_statement
