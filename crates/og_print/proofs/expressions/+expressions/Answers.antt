use Rattle.std.proofs.Common.{rules}
use Rattle.og_syntax.specs.declared.lexeme.Sort.TheVariants as k
use Rattle.og_print.specs.Expressions.{expr_words}
use Rattle.og_print.proofs.Texts.{one_more}
use Rattle.og_print.proofs.expressions.+expressions.Goals as goal

pub write_args-parts-preserved : goal.write_args-parts-preserved
write_args-parts-preserved t c =
    one_more c.parts.is_first k.Comma expr_words c.parts.out.items c.separator.new.out.items c.write_expr.new.out.items _ c.as_slice-arg-items.result.now c.parts.arg-index c.arg-item.result _ c.parts-test.true c.arg-item.is (search rules) (search rules) c.parts.invariant
