use Rattle.std.proofs.Common.{rules}
use Rattle.og_join.proofs.SameKeyLemmas.{AreLent-permutation}
use Rattle.og_join.proofs.same_key.LendBlockKeyPieceRefSlicePair.make.Goals as goal

pub returns : goal.returns
returns g c =
    let piece = c.args.self.now in (
      c.sort_by_key.new.rows.items,
      AreLent-permutation g.R.Instant.meaning g.Q.Key.Ord.cmp (g.Q.Keys.right_of piece.keys.now) (g.S.Spans.right_of piece.spans.now) piece.sought.now _ _ _ c.in_ok-sort_by_key.ensures.same c.in_ok-rows.ensures,
      search rules,
    )
