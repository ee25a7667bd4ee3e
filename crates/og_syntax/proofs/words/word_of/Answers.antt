use Rattle.og_syntax.specs.Words.{word_of}
use Rattle.og_syntax.proofs.words.word_of.Goals as goal

pub returns : goal.returns
unfolding word_of
returns c = c.word_in.ensures
