use Rattle.std.proofs.Common.{refl}
use Rattle.og_words.proofs.Readings.{if_none}
use Rattle.og_words.proofs.SaidCommands.{run_is, run_unasked}
use Rattle.og_words.proofs.matches.run_of.Goals as goal

pub returns-in_err-workers-clause-lacking : goal.returns-in_err-workers-clause-lacking
returns-in_err-workers-clause-lacking c = if_none _ _ (run_unasked _ refl c.in_err-workers.ensures.lacking)

pub returns-clause-command : goal.returns-clause-command
returns-clause-command c = run_is _ _ refl c.in_ok-workers.ensures.workers
