use Rattle.std.proofs.Common.{◌∙◌, ap, map, subst}
use Rattle.og_sql_words.specs.Asked.{IsWrong}
use Rattle.og_sql_words.proofs.read.read_words.Goals as goal

pub returns-clause-wrong : goal.returns-clause-wrong
returns-clause-wrong c e = subst IsWrong (ap (map (λ w. w.now)) c.as_slice.ensures.value ∙ c.in_ok-list.ensures) (c.ask_clap.ensures.wrong e)
