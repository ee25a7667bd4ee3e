use Rattle.std.proofs.Common.{[]}
use Rattle.og_parse.proofs.Lenient.{lenient}
use Rattle.og_parse.proofs.laws.strict_is_lenient.Goals as goal

pub returns : goal.returns
returns c script lexemes stmt h = lenient script lexemes stmt [] h
