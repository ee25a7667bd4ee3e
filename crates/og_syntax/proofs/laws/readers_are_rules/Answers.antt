use Rattle.og_syntax.proofs.Exact.{exact_reader}
use Rattle.og_syntax.proofs.LiteralRules.{exact-name, exact-quoted, exact-text, exact-lit}
use Rattle.og_syntax.proofs.ExpressionRules.{exact-expr}
use Rattle.og_syntax.proofs.ConditionRules.{exact-cond}
use Rattle.og_syntax.proofs.QueryRules.{exact-fitem}
use Rattle.og_syntax.proofs.CoreRules.{exact-query}
use Rattle.og_syntax.proofs.laws.readers_are_rules.Goals as goal

pub returns-clause-name : goal.returns-clause-name
returns-clause-name c script = exact_reader (exact-name script)

pub returns-clause-quoted : goal.returns-clause-quoted
returns-clause-quoted c script = exact_reader (exact-quoted script)

pub returns-clause-text : goal.returns-clause-text
returns-clause-text c script = exact_reader (exact-text script)

pub returns-clause-literal : goal.returns-clause-literal
returns-clause-literal c script strict = exact_reader (exact-lit script strict)

pub returns-clause-expression : goal.returns-clause-expression
returns-clause-expression c script strict = exact_reader (exact-expr script strict)

pub returns-clause-condition : goal.returns-clause-condition
returns-clause-condition c script strict = exact_reader (exact-cond script strict)

pub returns-clause-table_name : goal.returns-clause-table_name
returns-clause-table_name c script = exact_reader (exact-fitem script)

pub returns-clause-query : goal.returns-clause-query
returns-clause-query c script strict live = exact_reader (exact-query script strict live)
