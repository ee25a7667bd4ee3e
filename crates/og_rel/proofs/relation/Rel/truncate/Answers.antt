use Rattle.std.proofs.Common.{◌∙◌, ap, map, sym, take}
use Rattle.std.proofs.lemmas.List.{take-map}
use Rattle.og_rel.proofs.relation.Rel.truncate.Goals as goal

pub returns : goal.returns
returns g c =
    ap (map (λ p. (p.row, p.days))) c.truncate.ensures.items ∙ sym (take-map (λ p. (p.row, p.days)) c.args.len c.self.inside.pairs.items) ∙ ap (take c.args.len) c.self.view_is
