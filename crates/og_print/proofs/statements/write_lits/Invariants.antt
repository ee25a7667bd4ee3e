use Rattle.std.proofs.Common.{◌≡◌, drop}
use Rattle.og_syntax.specs.declared.lexeme.Sort.TheVariants as k
use Rattle.og_print.specs.Words.{with_words, parted}
use Rattle.og_print.specs.Expressions.{lit_words}
use Rattle.og_print.proofs.statements.write_lits.Given as goal

abbrev pub invariant-parts : goal.invariant-parts
invariant-parts l = with_words l.out.items (parted l.is_first k.Comma lit_words (drop l.i l.row)) ≡ with_words l.fn.out.items (parted l.initial.is_first k.Comma lit_words l.row)
