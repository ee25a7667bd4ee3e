use Rattle.std.proofs.Common.{rules}
use Rattle.og_syntax.specs.declared.lexeme.Sort.TheVariants as k
use Rattle.og_print.specs.Statements.{coldef_words}
use Rattle.og_print.proofs.Texts.{one_more}
use Rattle.og_print.proofs.statements.write_coldefs.Goals as goal

pub parts-preserved : goal.parts-preserved
parts-preserved c =
    one_more c.parts.is_first k.Comma coldef_words c.parts.out.items c.separator.new.out.items c.write_coldef.new.out.items _ c.as_slice-part-items.result.now c.parts.part-index c.part-item.result _ c.parts-test.true c.part-item.is (search rules) (search rules) c.parts.invariant
