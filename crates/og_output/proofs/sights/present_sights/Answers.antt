use Rattle.std.proofs.Common.{[], ◌∷◌, ◌++◌, ap, sym, ◌∙◌}
use Rattle.og_value.specs.Values.{row_at}
use Rattle.og_rel.specs.Pairs.{present_of_pairs}
use Rattle.og_rel.proofs.PairLemmas.{present_of_pairs-more}
use Rattle.og_output.proofs.sights.present_sights.Goals as goal

pub pairs-preserved : goal.pairs-preserved
pairs-preserved c =
    c.in_ok-add_sight.ensures ∙ ap (λ rows. rows ++ present_of_pairs row_at (c.pair-item.result ∷ []) c.args.day) c.pairs.invariant
    ∙ sym (present_of_pairs-more row_at c.args.day c.args.pairs.now c.pairs.pair-index _ c.pairs-test.true c.pair-item.is)
