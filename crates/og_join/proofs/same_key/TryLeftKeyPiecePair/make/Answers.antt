use Rattle.std.proofs.Common.{Bool, subst, sym}
use Rattle.std.specs.List.{All}
use Rattle.std.proofs.lemmas.Result.{IfOk-weaker}
use Rattle.std.proofs.lemmas.List.Elements.{All-filter}
use Rattle.std.specs.Ordering.{eq_by_cmp}
use Rattle.og_ops.specs.declared.semijoins.KeyedRow.{KeyedRow}
use Rattle.og_join.specs.SameKey.{IsNear}
use Rattle.og_join.specs.declared.span_key.SpanKey.{SpanKey}
use Rattle.og_join.proofs.SameKeyLemmas.{AreHitsOf-row, near_of}
use Rattle.og_join.proofs.same_key.TryLeftKeyPiecePair.make.Goals as goal

pub returns : goal.returns
returns g c =
    let at = g.R.Instant.meaning in
    let glued = g.R.Glue.glued in
    let piece = c.args.self.now in
    let holds = g.C.DayCond.holds piece.cond.now in
    let left_span = g.S.Spans.left_of piece.spans.now in
    let pair = c.args.item.now in
    let right = piece.right.now in
    let has_key : KeyedRow g.row.R.Denot (SpanKey g.row.Q-Key.Denot) → Bool = λ o. eq_by_cmp g.Q.Key.Ord.cmp o.key.key c.in_ok-key.key in
    let is_near : KeyedRow g.row.R.Denot (SpanKey g.row.Q-Key.Denot) → Type 0 = IsNear glued at holds c.left-span.result pair.row in
    IfOk-weaker c.try_others.result _ _ (λ _ made. (
      made.0,
      λ keys spans told. AreHitsOf-row at glued (g.M.PairMap.image piece.pair_map.now) holds g.met.Q.Key.Ord.total (g.Q.Keys.left_of piece.keys.now) (g.Q.Keys.right_of piece.keys.now)
          pair.row pair.days right c.of_key-others.result.now c.in_ok-key.key made.0 c.of_key-others.ensures c.in_ok-key.ensures keys
          (made.1 (subst (All is_near) (sym c.of_key-others.ensures) (All-filter has_key is_near right (subst (λ span. All (IsNear glued at holds span pair.row) right) (sym c.left-span.ensures) (near_of glued at holds left_span (g.S.Spans.right_of piece.spans.now) (pair.row, pair.days) right spans told))))),
      made.2,
    )) c.try_others.ensures
