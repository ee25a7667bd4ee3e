use Rattle.std.proofs.Common.{◌++◌, List, ap, ap₂, drop, map, sym, take, ◌∙◌}
use Rattle.std.proofs.lemmas.List.{drop-map, map-append, take-map}
use Rattle.og_base.specs.Ranges.{Range}
use Rattle.og_rel.specs.declared.pair.Pair.{Pair}
use Rattle.og_rel.proofs.relation.Rel.rotate_left.Goals as goal

pub returns : goal.returns
returns g c =
    let pairs = c.self.inside.pairs.items in
    let n = c.args.count in
    let pair : Pair g.row.R.Denot → g.row.R.Denot × List Range = λ p. (p.row, p.days) in
    ap (map pair) c.rotate_left.ensures.items ∙ map-append pair (drop n pairs) (take n pairs) ∙ ap₂ (λ a b. a ++ b) (sym (drop-map pair n pairs)) (sym (take-map pair n pairs))
    ∙ ap (λ rows. drop n rows ++ take n rows) c.self.view_is
