use Rattle.std.proofs.Common.{◌≡◌, drop}
use Rattle.og_syntax.specs.declared.lexeme.Sort.TheVariants as k
use Rattle.og_print.specs.Words.{with_words, parted}
use Rattle.og_print.specs.Statements.{tuple_words}
use Rattle.og_print.proofs.statements.write_tuples.Given as goal

abbrev pub invariant-parts : goal.invariant-parts
invariant-parts l = with_words l.out.items (parted l.is_first k.Comma tuple_words (drop l.part-index l.part-items)) ≡ with_words l.fn.out.items (parted l.initial.is_first k.Comma tuple_words l.rows)
