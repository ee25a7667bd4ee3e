use Rattle.std.proofs.Common.{◌∙◌, codes, refl, subst, sym, rules}
use Rattle.clap.specs.Words.{found_of}
use Rattle.clap.proofs.WalkLemmas.{first_value-rows}
use Rattle.og_base.specs.Calendar.{IsRefDayText}
use Rattle.og_words.proofs.SaidCommands.{at_is, at_no_day, at_no_file, at_no_text}
use Rattle.og_words.proofs.matches.at_of.Goals as goal

pub returns-in_default-clause-no_command : goal.returns-in_default-clause-no_command
returns-in_default-clause-no_command c _ = at_no_file _ refl (c.in_default.ensures ∙ first_value-rows (found_of c.args.found.now) (codes "file"))

pub returns-in_default-get_str-clause-no_command : goal.returns-in_default-get_str-clause-no_command
returns-in_default-get_str-clause-no_command c _ = at_no_text _ refl (c.in_default-get_str.ensures ∙ first_value-rows (found_of c.args.found.now) (codes "day"))

pub returns-in_default-read_ref_day-clause-no_command : goal.returns-in_default-read_ref_day-clause-no_command
returns-in_default-read_ref_day-clause-no_command c _ =
    at_no_day _ _ refl (c.in-Some-get_str.ensures ∙ first_value-rows (found_of c.args.found.now) (codes "day"))
    (λ d h. c.in_default-read_ref_day.ensures.refused d (subst (λ text. IsRefDayText text d) (sym c.as_bytes.ensures.value) h))

pub returns-in-Ok-of-clause-command : goal.returns-in-Ok-of-clause-command
returns-in-Ok-of-clause-command c =
    at_is _ _ _ _ _ refl (c.in-Some.ensures ∙ first_value-rows (found_of c.args.found.now) (codes "file")) (c.in-Some-get_str.ensures ∙ first_value-rows (found_of c.args.found.now) (codes "day"))
    (search rules) (search rules) (subst (λ text. IsRefDayText text c.in-Ok.day) c.as_bytes.ensures.value c.in-Ok.ensures.value)
