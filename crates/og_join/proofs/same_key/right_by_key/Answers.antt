use Rattle.std.proofs.Common.{ap, subst, map, ◌∙◌}
use Rattle.std.specs.List.{flat_map}
use Rattle.og_join.specs.SameKey.{AreLent}
use Rattle.og_join.proofs.SameKeyLemmas.{AreLent-blocks, AreLent-permutation}
use Rattle.og_join.proofs.same_key.right_by_key.Goals as goal

pub returns-clause-lent : goal.returns-clause-lent
returns-clause-lent g c =
    let at = g.R.Instant.meaning in
    let key_of = g.Q.Keys.right_of c.args.keys.now in
    let span_of = g.S.Spans.right_of c.args.spans.now in
    let sought = c.args.sought.now in
    let all = ap (λ blocks. map (λ p. (p.row, p.days)) (flat_map (λ b. b.now) blocks)) c.as_slice.ensures.value ∙ ap (map (λ p. (p.row, p.days))) c.in_ok-blocks.ensures ∙ c.pairs.ensures in
    let rows = c.in_ok-rows.rows.items in
    AreLent-permutation at g.Q.Key.Ord.cmp key_of span_of sought c.args.right.now rows _ c.in_ok-sort_by_key.ensures.same
    (subst (λ right. AreLent at g.Q.Key.Ord.cmp key_of span_of sought right rows) all (AreLent-blocks at g.Q.Key.Ord.cmp key_of span_of sought c.as_slice.result.now rows c.in_ok-rows.ensures))
