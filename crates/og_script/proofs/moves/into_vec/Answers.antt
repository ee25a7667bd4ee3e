use Rattle.std.proofs.Common.{reverse, ap, ◌∙◌}
use Rattle.std.proofs.lemmas.List.{reverse-reverse}
use Rattle.og_script.proofs.moves.into_vec.Goals as goal

pub returns : goal.returns
returns g c = c.reverse.ensures.items ∙ ap reverse c.in_ok-out.ensures ∙ reverse-reverse c.args.items
