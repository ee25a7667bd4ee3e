use Rattle.std.proofs.Common.{◌≡◌, ◌++◌, drop}
use Rattle.og_lex.specs.Bytes as bytes
use Rattle.og_print.proofs.words.doubled.Given as goal

abbrev pub invariant-bytes : goal.invariant-bytes
invariant-bytes l = l.out.items ++ bytes.doubled (drop l.byte-index l.content) ≡ l.fn.out.items ++ bytes.doubled l.content
