use Rattle.og_sql_words.proofs.Answered.{refused_wrong, taken_asked, taken_wrong}
use Rattle.og_sql_words.proofs.read.ask_clap.Goals as goal

pub returns-in-Ok-clause-asked : goal.returns-in-Ok-clause-asked
returns-in-Ok-clause-asked c = taken_asked _ _ _ _ c.in_ok-command.ensures c.in-Ok.ensures.kinds c.in-Ok.ensures.matches c.asked_of.ensures.sql

pub returns-in-Ok-clause-wrong : goal.returns-in-Ok-clause-wrong
returns-in-Ok-clause-wrong c e = taken_wrong _ _ _ c.in_ok-command.ensures c.in-Ok.ensures.kinds c.in-Ok.ensures.matches (c.asked_of.ensures.wrong e)

pub returns-in-Err-clause-wrong : goal.returns-in-Err-clause-wrong
returns-in-Err-clause-wrong c e =
    refused_wrong _ _ c.in-Err.error c.in_ok-command.ensures c.in-Err.ensures.kinds (c.asked_by.ensures.wrong e).0 (c.asked_by.ensures.wrong e).1
