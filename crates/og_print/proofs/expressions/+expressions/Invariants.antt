use Rattle.std.proofs.Common.{◌≡◌, drop}
use Rattle.og_syntax.specs.declared.lexeme.Sort.TheVariants as k
use Rattle.og_print.specs.Words.{with_words, parted}
use Rattle.og_print.specs.Expressions.{expr_words}
use Rattle.og_print.proofs.expressions.+expressions.Given as goal

abbrev pub invariant-write_args-parts : goal.invariant-write_args-parts
invariant-write_args-parts l =
    with_words l.out.items (parted l.is_first k.Comma expr_words (drop l.arg-index l.arg-items)) ≡ with_words l.fn.out.items (parted l.initial.is_first k.Comma expr_words l.args)
