use Rattle.std.proofs.Common.{rules, ◌≡◌, false, sym, ap, subst, map, ◌∙◌}
use Rattle.og_words.specs.Grammar.{IsCommand}
use Rattle.og_words.proofs.AskedCommands.{unasked_none}
use Rattle.og_words.proofs.read.read_words.Goals as goal

pub returns-then-not-are_asked-clause-no_command : goal.returns-then-not-are_asked-clause-no_command
returns-then-not-are_asked-clause-no_command c e command h =
    let out : c.are_asked.result ≡ false = search rules in
    unasked_none _ (sym c.are_asked.ensures ∙ out) command (subst (λ ws. IsCommand ws command) (sym (ap (map (λ w. w.now)) c.as_slice.ensures.value ∙ c.in_ok-list.ensures)) h)

pub returns-clause-no_command : goal.returns-clause-no_command
returns-clause-no_command c e command h =
    c.ask_clap.ensures.no_command e command (subst (λ ws. IsCommand ws command) (sym (ap (map (λ w. w.now)) c.as_slice-2.ensures.value ∙ c.in_ok-list.ensures)) h)
