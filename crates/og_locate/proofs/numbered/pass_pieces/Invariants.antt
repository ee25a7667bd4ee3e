use Rattle.std.proofs.Common.{◌≡◌, ◌+◌, length, slice_get}
use Rattle.og_parse.specs.Script.{pieces}
use Rattle.og_parse.specs.Tokens.{lexemes_of}
use Rattle.og_locate.proofs.numbered.pass_pieces.Given as goal

abbrev pub invariant-pieces : goal.invariant-pieces
invariant-pieces l = record {
  same : slice_get (pieces (lexemes_of l.script l.rest)) l.left ≡ slice_get (pieces (lexemes_of l.script l.tokens)) l.before;
  count : length (pieces (lexemes_of l.script l.rest)) + l.before ≡ length (pieces (lexemes_of l.script l.tokens)) + l.left;
}

abbrev pub decreases-pieces : goal.decreases-pieces
decreases-pieces l = length l.rest
