use Rattle.std.proofs.Common.{◌++◌, [], ◌∷◌, ap, sym, ◌∙◌}
use Rattle.std.proofs.lemmas.List.{map_more}
use Rattle.og_query.proofs.walk.first_places.Goals as goal

pub sizes-preserved : goal.sizes-preserved
sizes-preserved c = c.in_ok-push.ensures.items ∙ ap (λ places. places ++ 0 ∷ []) c.sizes.invariant ∙ sym (map_more (λ _. 0) c.args.sizes.now c.sizes.index 0 c.sizes-test.true)
