use Rattle.std.proofs.Common.{◌+◌, ◌∙◌, sym, arith}
use Rattle.og_query.proofs.NamedLemmas.{not_here, none_behind}
use Rattle.og_query.proofs.named.rows_named.Goals as goal

pub names-preserved : goal.names-preserved
names-preserved c =
    c.names.invariant
    ∙ not_here c.args.names.now c.args.tables.now c.args.name.now c.index-names-i.result c.names.i (c.names.i + 1) (omega arith)
    (omega (arith, c.names-test.true, c.min-i-end.ensures)) (omega (arith, c.names-test.true, c.min-i-end.ensures)) c.index-names-i.is (sym c.eq.ensures ∙ c.if-eq.false)

pub returns : goal.returns
returns c = sym (c.names.invariant ∙ none_behind c.args.names.now c.args.tables.now c.args.name.now c.names.i (omega (arith, c.names-test.false, c.min-i-end.ensures)))
