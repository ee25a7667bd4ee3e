use Rattle.og_lex.proofs.Longest.{longest}
use Rattle.og_lex.proofs.laws.longest_token.Goals as goal

pub returns : goal.returns
returns c = record { longest = longest }
