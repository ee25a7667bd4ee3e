use Rattle.std.proofs.Common.{[], ◌∷◌, ◌++◌, ap, sym, ◌∙◌}
use Rattle.og_rel.specs.Pairs.{present_of_pairs}
use Rattle.og_rel.proofs.PairLemmas.{present_of_pairs-more}
use Rattle.og_rel.proofs.pair.present_rows.Goals as goal

pub pairs-preserved : goal.pairs-preserved
pairs-preserved g c =
    c.in_ok-add_row.ensures ∙ ap (λ rows. rows ++ present_of_pairs g.R.Instant.meaning (c.pair-item.result ∷ []) c.args.d) c.pairs.invariant
    ∙ sym (present_of_pairs-more g.R.Instant.meaning c.args.d c.args.pairs.now c.pairs.pair-index _ c.pairs-test.true c.pair-item.is)
