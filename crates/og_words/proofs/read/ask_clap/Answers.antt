use Rattle.og_words.proofs.AskedCommands.{none_taken, refused_none, taken_command}
use Rattle.og_words.proofs.read.ask_clap.Goals as goal

pub returns-in-Ok-clause-command : goal.returns-in-Ok-clause-command
returns-in-Ok-clause-command c =
    taken_command _ _ _ _ c.in_ok-command.ensures c.requires c.in-Ok.ensures.kinds c.in-Ok.ensures.matches c.command_of.ensures.command

pub returns-in-Ok-clause-no_command : goal.returns-in-Ok-clause-no_command
returns-in-Ok-clause-no_command c = none_taken _ _ _ _ c.in_ok-command.ensures c.in-Ok.ensures.matches c.command_of.ensures.no_command

pub returns-in-Err-clause-no_command : goal.returns-in-Err-clause-no_command
returns-in-Err-clause-no_command c e = refused_none _ _ c.in-Err.error c.in_ok-command.ensures c.in-Err.ensures.kinds (c.refusal_of.ensures (cc e))
