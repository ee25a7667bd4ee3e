use Rattle.std.specs.List.{All}
use Rattle.og_locate.specs.Fronts.{GoesOn}
use Rattle.og_locate.proofs.spot.sure_words.Given as goal

abbrev pub invariant-words : goal.invariant-words
invariant-words l = All (GoesOn l.script l.front) l.sure.items
