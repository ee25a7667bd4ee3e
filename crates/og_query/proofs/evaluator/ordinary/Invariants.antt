use Rattle.std.proofs.Common.{◌≡◌, ℤ, fold, take}
use Rattle.og_query.specs.Queries.{combined, core_rows}
use Rattle.og_query.specs.Tables.{rows_of, tables_in}
use Rattle.og_query.proofs.evaluator.ordinary.Given as goal

abbrev pub invariant-rests : goal.invariant-rests
invariant-rests l = (d : ℤ)
    → l.answer.items
    ≡ fold (λ answer rest. combined rest.op answer (core_rows d (rows_of l.names (tables_in l.tables)) rest.core)) (core_rows d (rows_of l.names (tables_in l.tables)) l.query.first) (take l.rest-index l.rest-items)
