use Rattle.og_parse.specs.Script.{pieces}
use Rattle.og_parse.specs.Tokens.{lexemes_of}
use Rattle.og_parse.proofs.Scripts.{one_whole, one_list}
use Rattle.og_parse.proofs.laws.one_tree.Goals as goal

pub returns-clause-statement : goal.returns-clause-statement
returns-clause-statement c = one_whole

pub returns-clause-script : goal.returns-clause-script
returns-clause-script c script tokens stmts others h j = one_list script (pieces (lexemes_of script tokens)) stmts others h j
