use Rattle.std.proofs.Common.{◌∙◌, codes, refl}
use Rattle.clap.specs.Words.{found_of}
use Rattle.clap.proofs.WalkLemmas.{first_value-rows}
use Rattle.og_words.proofs.Readings.{if_none}
use Rattle.og_words.proofs.SaidCommands.{none_asked, same_asked}
use Rattle.og_words.proofs.matches.workers_of.Goals as goal

pub returns-in_default-clause-workers : goal.returns-in_default-clause-workers
returns-in_default-clause-workers c =
    same_asked _ _ 1 (c.in_default.ensures ∙ first_value-rows (found_of c.args.found.now) (codes "workers")) refl

pub returns-in_err-workers-clause-lacking : goal.returns-in_err-workers-clause-lacking
returns-in_err-workers-clause-lacking c =
    if_none _ _ (none_asked _ _ (c.in-Some.ensures ∙ first_value-rows (found_of c.args.found.now) (codes "workers")) c.in_err-workers.ensures.lacking)

pub returns-clause-workers : goal.returns-clause-workers
returns-clause-workers c =
    same_asked _ _ _ (c.in-Some.ensures ∙ first_value-rows (found_of c.args.found.now) (codes "workers")) c.in_ok-workers.ensures.number
