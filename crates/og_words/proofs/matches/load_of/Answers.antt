use Rattle.std.proofs.Common.{◌∙◌, codes, refl}
use Rattle.clap.specs.Words.{found_of}
use Rattle.clap.proofs.WalkLemmas.{first_value-rows}
use Rattle.og_words.proofs.Readings.{if_none}
use Rattle.og_words.proofs.SaidCommands.{load_bad_rows, load_is, load_no_rows, load_unasked}
use Rattle.og_words.proofs.matches.load_of.Goals as goal

pub returns-in_err-get_str-clause-lacking : goal.returns-in_err-get_str-clause-lacking
returns-in_err-get_str-clause-lacking c = if_none _ _ (load_no_rows _ refl (c.in_err-get_str.ensures ∙ first_value-rows (found_of c.args.found.now) (codes "rows")))

pub returns-in_err-rows-clause-lacking : goal.returns-in_err-rows-clause-lacking
returns-in_err-rows-clause-lacking c =
    if_none _ _ (load_bad_rows _ _ refl (c.in_ok-get_str.ensures ∙ first_value-rows (found_of c.args.found.now) (codes "rows")) c.in_err-rows.ensures.lacking)

pub returns-in_err-workers-clause-lacking : goal.returns-in_err-workers-clause-lacking
returns-in_err-workers-clause-lacking c = if_none _ _ (load_unasked _ refl c.in_err-workers.ensures.lacking)

pub returns-clause-command : goal.returns-clause-command
returns-clause-command c =
    load_is _ _ _ _ refl (c.in_ok-get_str.ensures ∙ first_value-rows (found_of c.args.found.now) (codes "rows")) c.in_ok-rows.ensures.number c.in_ok-workers.ensures.workers
