use Rattle.std.proofs.Common.{ap, sym, ◌∙◌}
use Rattle.std.specs.List.{list_all}
use Rattle.std.proofs.lemmas.List.{take_all}
use Rattle.og_query.specs.Queries.{meets}
use Rattle.og_query.specs.Tables.{rows_of, tables_in}
use Rattle.og_query.proofs.TruthLemmas.{one_fails, one_more_passes}
use Rattle.og_query.proofs.kept.meets_all.Goals as goal

pub returns-then-not-branch : goal.returns-then-not-branch
returns-then-not-branch c = λ d.
    sym (one_fails (meets d (rows_of c.args.names.now (tables_in c.args.tables.now)) c.args.row.now) _ _ _ _ c.semis-test.true c.semi-item.is (c.in_ok-meets.ensures d) c.if-not-branch.true)

pub semis-preserved : goal.semis-preserved
semis-preserved c = λ d.
    one_more_passes (meets d (rows_of c.args.names.now (tables_in c.args.tables.now)) c.args.row.now) _ _ _ _ c.semis-test.true c.semi-item.is (c.in_ok-meets.ensures d) (c.semis.invariant d) c.if-not-branch.false

pub returns : goal.returns
returns c = λ d. sym (c.semis.invariant d) ∙ ap (list_all (meets d (rows_of c.args.names.now (tables_in c.args.tables.now)) c.args.row.now)) (take_all _ _ c.semis-test.false)
