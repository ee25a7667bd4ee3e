use Rattle.std.proofs.Common.{◌≡◌, ◌++◌, ◌∷◌, [], rules, reverse, ap, ◌∙◌}
use Rattle.og_script.proofs.TurnLemmas.{turn-one}
use Rattle.og_script.proofs.moves.turned.Goals as goal

pub items-preserved : goal.items-preserved
items-preserved g c =
    let pushed : c.push.new.self.items ≡ c.items.out.items ++ c.in-Some.item ∷ [] = search rules in
    ap (λ xs. xs ++ reverse c.pop.new.self) pushed ∙ turn-one c.items.out.items c.items.left c.pop.new.self c.in-Some.item c.in-Some.ensures ∙ c.items.invariant
