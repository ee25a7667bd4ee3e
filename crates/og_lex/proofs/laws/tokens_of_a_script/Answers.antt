use Rattle.og_lex.proofs.Tokens.{rising, kinds-lexed, one_content, content-utf8}
use Rattle.og_lex.proofs.laws.tokens_of_a_script.Goals as goal

pub returns-clause-rising : goal.returns-clause-rising
returns-clause-rising c = rising

pub returns-clause-kinds : goal.returns-clause-kinds
returns-clause-kinds c = kinds-lexed

pub returns-clause-utf8 : goal.returns-clause-utf8
returns-clause-utf8 c = content-utf8

pub returns-clause-one_content : goal.returns-clause-one_content
returns-clause-one_content c = one_content
