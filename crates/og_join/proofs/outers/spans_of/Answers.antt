use Rattle.std.proofs.Common.{ap, ◌∙◌, arith, rules}
use Rattle.std.specs.List.{list_any}
use Rattle.std.proofs.lemmas.List.{take_all}
use Rattle.og_join.specs.Tried.{has_span}
use Rattle.og_join.proofs.SpanLemmas.{list_any-more}
use Rattle.og_join.proofs.outers.spans_of.Goals as goal

pub rows-preserved : goal.rows-preserved
rows-preserved g c = record {
  rows = λ t. list_any-more (has_span (g.S.SpanOf.span_of c.args.side.now) t) c.args.rel.now c.rows.i _ _ (search rules) (c.rows.invariant.rows t) (c.in_ok-add_span.ensures.rows t);
  size = omega (arith, c.rows.invariant.size, c.in_ok-add_span.ensures.size);
}

pub returns-clause-rows : goal.returns-clause-rows
returns-clause-rows g c t = c.rows.invariant.rows t ∙ ap (list_any (has_span (g.S.SpanOf.span_of c.args.side.now) t)) (take_all c.rows.i c.args.rel.now (search rules))
