use Rattle.std.proofs.Common.{subst}
use Rattle.std.specs.List.{All}
use Rattle.og_locate.specs.Fronts.{GoesOn}
use Rattle.og_locate.proofs.spot.spot_of.Goals as goal

pub returns-clause-words : goal.returns-clause-words
returns-clause-words c = subst (λ ts. All (GoesOn c.args.script.now ts) c.in_ok-words.words.items) c.split_at.ensures.front c.in_ok-words.ensures
