use Rattle.std.proofs.Common.{rules, codes}
use Rattle.og_words.proofs.SaidCommands.{met_command, met_none, met_option, met_option_none}
use Rattle.og_words.proofs.matches.command_of.Goals as goal

pub returns-in-run-clause-command : goal.returns-in-run-clause-command
returns-in-run-clause-command c = met_option _ (codes "run") _ _ _ _ c.in-Some.ensures.name (search rules) c.in-Some.ensures.rows c.ok_or.ensures.value c.run_of.ensures.command

pub returns-in-run-clause-no_command : goal.returns-in-run-clause-no_command
returns-in-run-clause-no_command c = met_option_none _ (codes "run") _ _ _ _ c.in-Some.ensures.name (search rules) c.in-Some.ensures.rows c.ok_or.ensures.value c.run_of.ensures.lacking

pub returns-in-load-clause-command : goal.returns-in-load-clause-command
returns-in-load-clause-command c = met_option _ (codes "load") _ _ _ _ c.in-Some.ensures.name (search rules) c.in-Some.ensures.rows c.ok_or-in-load.ensures.value c.load_of.ensures.command

pub returns-in-load-clause-no_command : goal.returns-in-load-clause-no_command
returns-in-load-clause-no_command c = met_option_none _ (codes "load") _ _ _ _ c.in-Some.ensures.name (search rules) c.in-Some.ensures.rows c.ok_or-in-load.ensures.value c.load_of.ensures.lacking

pub returns-in-at-clause-command : goal.returns-in-at-clause-command
returns-in-at-clause-command c = met_command _ (codes "at") _ _ _ c.in-Some.ensures.name (search rules) c.in-Some.ensures.rows c.at_of.ensures.command

pub returns-in-at-clause-no_command : goal.returns-in-at-clause-no_command
returns-in-at-clause-no_command c = met_none _ (codes "at") _ _ _ c.in-Some.ensures.name (search rules) c.in-Some.ensures.rows c.at_of.ensures.no_command
