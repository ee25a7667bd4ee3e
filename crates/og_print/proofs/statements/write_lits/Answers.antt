use Rattle.std.proofs.Common.{rules, sym}
use Rattle.std.proofs.lemmas.Option.{get_or_from_slice_get}
use Rattle.og_syntax.specs.declared.lexeme.Sort.TheVariants as k
use Rattle.og_print.specs.Expressions.{lit_words}
use Rattle.og_print.proofs.Texts.{one_more}
use Rattle.og_print.proofs.statements.write_lits.Goals as goal

pub parts-preserved : goal.parts-preserved
parts-preserved c =
    one_more c.parts.is_first k.Comma lit_words c.parts.out.items c.separator.new.out.items c.write_lit.new.out.items _ c.args.row.now c.parts.i c.value.result.now c.value.result.now (search rules) (sym (get_or_from_slice_get c.args.row.now c.parts.i c.value.result.now c.value.result.now c.value.ensures)) (search rules) (search rules) c.parts.invariant
