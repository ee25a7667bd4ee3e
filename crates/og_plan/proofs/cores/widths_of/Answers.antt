use Rattle.std.proofs.Common.{ℕ, length, map, refl, ap, ◌∙◌}
use Rattle.og_plan.proofs.LoopLemmas.{mapped_more, all_walked}
use Rattle.og_plan.proofs.cores.widths_of.Goals as goal
use Rattle.og_query.specs.declared.query.From1.{From1}

-- how many columns the table has
abbrev width : From1 → ℕ
width table = length table.schema

pub tables-preserved : goal.tables-preserved
tables-preserved c =
    mapped_more width c.args.tables.now c.tables.table-index c.table-item.result c.len.result c.tables.widths.items _ c.tables-test.true c.tables.invariant (c.len.ensures ∙ ap width c.table-item.is) c.in_ok-push.ensures.items

pub returns : goal.returns
returns c = all_walked (map width) c.args.tables.now _ c.tables.table-index c.tables.widths.items refl c.tables-test.false c.tables.invariant
