use Rattle.og_parse.specs.Script.{pieces}
use Rattle.og_parse.specs.Tokens.{lexemes_of}
use Rattle.og_parse.proofs.Scripts.{good_or_first_fault, good_or_faulty, one_first_fault}
use Rattle.og_parse.proofs.laws.tree_or_fault.Goals as goal

pub returns-clause-some : goal.returns-clause-some
returns-clause-some c script tokens = good_or_first_fault script 1 (pieces (lexemes_of script tokens))

pub returns-clause-apart : goal.returns-clause-apart
returns-clause-apart c script tokens stmts fault h j = good_or_faulty script 1 (pieces (lexemes_of script tokens)) stmts fault h j

pub returns-clause-one_fault : goal.returns-clause-one_fault
returns-clause-one_fault c script tokens fault other h j = one_first_fault script 1 (pieces (lexemes_of script tokens)) fault other h j
