use Rattle.std.proofs.Common.{refl, ap, length, arith, ◌∙◌}
use Rattle.std.proofs.lemmas.Result.{IfOk-weaker}
use Rattle.og_join.specs.Hits.{stored_hits}
use Rattle.og_join.specs.Tried.{rows_meet}
use Rattle.og_join.proofs.TryLemmas.{any_relation, length-made}
use Rattle.og_join.proofs.blocks.JoinBlockPieceRefSliceOuter.make.Goals as goal

pub returns : goal.returns
returns g c =
    let at = g.R.Instant.meaning in
    let sides = c.args.self.now.sides.now in
    let image = g.M.PairMap.image sides.pair_map.now in
    let meet = rows_meet g.R.Glue.glued at (g.C.DayCond.holds sides.cond.now) sides.left.now sides.right.now in
    let pairs = c.in_ok-pairs.pairs.items in
    let given = c.as_slice.result.now in
    IfOk-weaker c.try_pairs.result _ _ (λ _ made. (
      made.0,
      (
        λ t d r. any_relation at image (λ p. meet p.0 p.1) pairs given made.0 (stored_hits made.0) refl c.as_slice.ensures.value made.1 t d r
            ∙ c.in_ok-pairs.ensures.rows (λ m n. meet m n (λ x. t (image d x)) d),
        omega (arith, length-made at image (λ p. meet p.0 p.1) given made.0 made.1, ap length c.as_slice.ensures.value, c.in_ok-pairs.ensures.size),
      ),
      made.2,
    )) c.try_pairs.ensures
