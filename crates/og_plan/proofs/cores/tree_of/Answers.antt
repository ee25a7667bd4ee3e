use Rattle.std.proofs.Common.{◌<◌, ◌∙◌, rules, arith, length, ap, sym}
use Rattle.std.proofs.lemmas.List.{get_or_default}
use Rattle.og_plan.proofs.TreeLemmas.{columns_more, columns_within, tree_step}
use Rattle.og_plan.proofs.cores.tree_of.Goals as goal

pub overflow_add-start : goal.overflow_add-start
overflow_add-start c =
    let long : length c.args.kinds.now < 18446744073709551616 = search rules in
    let within = columns_within c.args.tables.now c.tables.k c.index-tables-k-in-tables.result c.tables-test.true in
    omega (arith, long, within, c.tables.invariant.start, ap length c.requires.kinds, c.len-start-in-tables.ensures)

pub tables-preserved : goal.tables-preserved
tables-preserved c =
    let tables = c.args.tables.now in
    let table = c.index-tables-k.result in
    let k = c.tables.k in
    let wide = c.len-start-in-tables.ensures ∙ ap (λ t. length t.schema) (get_or_default tables k c.index-tables-k-in-tables.result table c.tables-test.true ∙ sym c.index-tables-k.is) in record {
      start = columns_more tables k c.tables.start c.len-start-in-tables.result table c.tables-test.true c.index-tables-k.is wide c.tables.invariant.start;
      left =
          tree_step c.args.kinds.now c.args.widths.now c.args.parts.now k c.tables.start c.tables.tree tables table c.len-start-in-tables.result _ _ c.tables-test.true c.index-tables-k.is wide
          c.in_ok-tree-2.ensures c.tables.invariant.left;
    }
