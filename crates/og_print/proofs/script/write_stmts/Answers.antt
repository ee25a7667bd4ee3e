use Rattle.std.proofs.Common.{rules}
use Rattle.og_print.specs.Statements.{stmt_words}
use Rattle.og_print.proofs.Texts.{one_more_each}
use Rattle.og_print.proofs.script.write_stmts.Goals as goal

pub parts-preserved : goal.parts-preserved
parts-preserved c =
    one_more_each stmt_words c.parts.out.items c.write_stmt.new.out.items _ c.as_slice-part-items.result.now c.parts.part-index c.part-item.result _ c.parts-test.true c.part-item.is (search rules) c.parts.invariant
