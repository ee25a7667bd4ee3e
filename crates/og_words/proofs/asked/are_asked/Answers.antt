use Rattle.std.proofs.Common.{rules}
use Rattle.og_words.proofs.WordKinds.{asked_rest}
use Rattle.og_words.proofs.asked.are_asked.Goals as goal

pub returns-then-rest-le3 : goal.returns-then-rest-le3
returns-then-rest-le3 c = asked_rest _ _ _ _ c.in-Some.ensures.cases.0 (search rules) (search rules) c.are_all_asked.ensures
