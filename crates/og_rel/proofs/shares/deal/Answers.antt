use Rattle.std.proofs.Common.{◌≡◌, ◌++◌, ◌∷◌, [], rules, ap, ◌∙◌}
use Rattle.og_rel.specs.Shares.{rows_of, rows_of_shares}
use Rattle.og_rel.proofs.ShareLemmas.{dealt, rows_of-more, rows_of_shares-cons}
use Rattle.og_rel.proofs.shares.deal.Goals as goal

pub returns : goal.returns
returns g c =
    let part = c.args.part in
    let last = c.last_share-share.result in
    let kept = c.last_share-share.new.shares.items in
    let share = c.push.new.self in
    let pushed : share.items ≡ last.items ++ part ∷ [] = search rules in
    let inserted : c.insert.new.self.items ≡ share ∷ kept = search rules in
    dealt (rows_of_shares kept) (rows_of last.items) part.items _ (rows_of share.items) _ c.last_share-share.ensures
    (ap rows_of pushed ∙ rows_of-more last.items part) (ap rows_of_shares inserted ∙ rows_of_shares-cons share kept)
