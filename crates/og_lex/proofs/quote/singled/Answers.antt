use Rattle.std.proofs.Common.{rules, sym}
use Rattle.og_lex.proofs.Quotes.{single_quotes-none}
use Rattle.og_lex.proofs.quote.singled.Goals as goal

pub returns-then-not-contains : goal.returns-then-not-contains
returns-then-not-contains c = sym (single_quotes-none c.args.z.now (search rules))
