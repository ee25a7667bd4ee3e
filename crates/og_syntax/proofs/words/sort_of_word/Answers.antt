use Rattle.og_syntax.specs.Words.{sort_of_word}
use Rattle.og_syntax.proofs.words.sort_of_word.Goals as goal

pub returns : goal.returns
unfolding sort_of_word
returns c = c.lookup.ensures
