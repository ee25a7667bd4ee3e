use Rattle.og_query.proofs.QueryLemmas.{answer_keeps_size}
use Rattle.og_query.proofs.laws.answers_keep_the_size.Goals as goal

pub returns : goal.returns
returns c = answer_keeps_size
