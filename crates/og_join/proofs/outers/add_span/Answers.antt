use Rattle.std.proofs.Common.{ap, ◌∙◌, arith}
use Rattle.og_join.specs.Tried.{at_row}
use Rattle.og_join.proofs.SpanLemmas.{less_test, span_added}
use Rattle.og_join.proofs.PlaceTests.{list_any-push}
use Rattle.og_join.proofs.outers.add_span.Goals as goal

pub returns-in_ok-push-clause-rows : goal.returns-in_ok-push-clause-rows
returns-in_ok-push-clause-rows g c t p =
    list_any-push (at_row t c.args.rel.now) _ _ _ _ c.in_ok-push.ensures.items
    (span_added (g.S.SpanOf.span_of c.args.side.now) t c.args.rel.now c.args.i p c.span-start.result (search arith)
    (c.span-start.ensures ∙ ap (g.S.SpanOf.span_of c.args.side.now) (c.row.ensures p)) (less_test c.span-start.result.start c.span-start.result.end c.if-lt.ensures))
