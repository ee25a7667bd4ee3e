use Rattle.std.proofs.Common.{sym, ap, ◌∙◌, arith}
use Rattle.std.proofs.lemmas.Result.{IfOk-weaker}
use Rattle.og_exec.specs.Images.{images}
use Rattle.og_exec.specs.Tables.{rows_on}
use Rattle.og_exec.proofs.SpanLemmas.{columns_of_pair, no_column}
use Rattle.og_exec.proofs.overlaps.pair_joined.Goals as goal

pub returns-then-pair-width-clause-law : goal.returns-then-pair-width-clause-law
returns-then-pair-width-clause-law g c d day wide =
    ap (λ rel. rows_on rel d) c.new.ensures
    ∙ ap (λ rows. images (g.M.PairMap.image c.args.pair_map.now d) rows)
    (sym (no_column d c.args.width c.args.pair.now c.args.rest.now (rows_on c.args.left.now d) (rows_on c.args.right.now d) (omega (arith, c.if-pair-width.true)) wide))

pub returns-clause-law : goal.returns-clause-law
returns-clause-law g c =
    IfOk-weaker c.columns_joined.result _ _
    (λ r law d day wide. law d day
    ∙ ap (λ rows. images (g.M.PairMap.image c.args.pair_map.now d) rows)
    (columns_of_pair d c.args.width c.in_ok-place.place c.args.pair.now c.args.rest.now (rows_on c.args.left.now d) (rows_on c.args.right.now d)
    c.in_ok-place.ensures (omega (arith, c.if-pair-width.false)) wide)) c.columns_joined.ensures.law
