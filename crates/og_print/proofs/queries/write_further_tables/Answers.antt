use Rattle.std.proofs.Common.{rules}
use Rattle.og_print.specs.Queries.{further_table_words}
use Rattle.og_print.proofs.Texts.{one_more_each}
use Rattle.og_print.proofs.queries.write_further_tables.Goals as goal

pub parts-preserved : goal.parts-preserved
parts-preserved c =
    one_more_each further_table_words c.parts.out.items c.write_further_table.new.out.items _ c.args.tables.now c.parts.part-index c.part-item.result _ c.parts-test.true c.part-item.is (search rules) c.parts.invariant
