use Rattle.std.proofs.lemmas.Result.{IfOk-weaker, IfErr-weaker}
use Rattle.og_lex.proofs.Scripts.{tokens-lexed, IsRefusal-lexed}
use Rattle.og_lex.proofs.lexer.lex.Goals as goal

pub returns-clause-tokens : goal.returns-clause-tokens
returns-clause-tokens c = IfOk-weaker c.pieces.result _ _ (λ tokens e. tokens-lexed c.args.script.now tokens.items e) c.pieces.ensures.tokens

pub returns-clause-refused : goal.returns-clause-refused
returns-clause-refused c = IfErr-weaker c.pieces.result _ _ (IsRefusal-lexed c.args.script.now) c.pieces.ensures.fault
