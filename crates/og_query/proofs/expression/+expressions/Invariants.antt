use Rattle.std.proofs.Common.{◌≡◌, take}
use Rattle.og_query.proofs.expression.+expressions.Given as goal

abbrev pub invariant-copy_expressions-all : goal.invariant-copy_expressions-all
invariant-copy_expressions-all l = l.copies ≡ take l.one-index l.one-items
