use Rattle.std.proofs.Common.{◌++◌, ap, codes, get_or, ◌∙◌}
use Rattle.std.proofs.lemmas.List.{append_assoc}
use Rattle.og_plan.specs.Words.{pair_text}
use Rattle.og_plan.proofs.LoopLemmas.{made_behind}
use Rattle.og_plan.proofs.words.more_pairs.Goals as goal

pub pairs-preserved : goal.pairs-preserved
pairs-preserved c =
    let text = pair_text (get_or c.args.pairs.now c.pairs.pair-index (record { left = 0; right = 0 })) in
    made_behind (λ pair. codes "," ++ pair_text pair) c.args.pairs.now c.pairs.pair-index (record { left = 0; right = 0 }) c.args.out.now.items c.pairs.out.items _ c.pairs-test.true c.pairs.invariant
    (c.in_ok-pair_text.ensures ∙ ap (λ out. out ++ text) c.in_ok-push.ensures.items ∙ append_assoc c.pairs.out.items (codes ",") text)
