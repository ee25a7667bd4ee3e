use Rattle.std.proofs.Common.{◌≡◌, ◌∷◌, [], rules, ap, ◌∙◌, subst, sym}
use Rattle.og_base.specs.Set.{IsExactOrder, set_of}
use Rattle.og_rel.specs.Shares.{AreListed, rows_of}
use Rattle.og_rel.proofs.ShareLemmas.{listed_alone}
use Rattle.og_rel.proofs.shares.together.Goals as goal

pub returns : goal.returns
returns g c =
    let o : IsExactOrder _ = record { total = g.met.F.Ord.total; exact = c.requires.exact } in
    let list = c.in_ok-list.list in
    let rows = rows_of c.args.parts.items in
    let pushed : c.push.new.self.items ≡ list ∷ [] = search rules in
    subst (AreListed g.F.Ord.cmp rows) (sym pushed) (listed_alone o rows list (c.in_ok-list.ensures.set ∙ ap (set_of g.F.Ord.cmp) c.in_ok-rows.ensures))
