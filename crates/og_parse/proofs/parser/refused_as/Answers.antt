use Rattle.std.proofs.Common.{[], ◌++◌, drop}
use Rattle.og_lex.specs.Grammar.{Reads}
use Rattle.og_lex.proofs.Parts.{reads_on, refused_on}
use Rattle.og_parse.proofs.parser.refused_as.Goals as goal

pub parts-init : goal.parts-init
parts-init c = record {
  read = ([], Reads.stops c.args.from (drop c.args.from c.args.script.now));
  within = c.requires;
}

pub parts-preserved : goal.parts-preserved
parts-preserved c = record {
  read = (c.parts.invariant.read.0 ++ c.lex_part.new.tokens.items, reads_on c.parts.invariant.read.1 c.in-Ok.ensures.read);
  within = c.in-Ok.ensures.within.1;
}

pub returns-in-Err : goal.returns-in-Err
returns-in-Err c =
    refused_on c.args.from c.parts.at (drop c.args.from c.args.script.now) (drop c.parts.at c.args.script.now) c.parts.invariant.read.0 c.in-Err.refusal c.parts.invariant.read.1 c.in-Err.ensures.refused
