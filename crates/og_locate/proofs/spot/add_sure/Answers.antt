use Rattle.std.proofs.Common.{rules, subst, sym, ◌≡◌, ◌++◌, ◌∷◌, []}
use Rattle.std.specs.List.{All}
use Rattle.std.proofs.lemmas.List.Elements.{All-push}
use Rattle.og_locate.specs.Fronts.{GoesOn}
use Rattle.og_locate.proofs.spot.add_sure.Goals as goal

pub returns : goal.returns
returns c = λ all.
    let now : c.push.new.self.items ≡ c.args.sure.now.items ++ c.args.word ∷ [] = search rules in
    subst (All (GoesOn c.args.script.now c.args.front.now)) (sym now) (All-push (GoesOn c.args.script.now c.args.front.now) c.args.sure.now.items c.args.word all (c.in_ok-goes_on.ensures (search rules)))
