use Rattle.std.proofs.Common.{◌≡◌, ◌++◌, ◌∷◌, [], rules, subst, sym}
use Rattle.std.specs.List.Sorted.{IsPermutation}
use Rattle.og_rel.specs.Shares.{rows_of}
use Rattle.og_rel.proofs.ShareLemmas.{one_part_more, last_part}
use Rattle.og_rel.proofs.cuts.parts_of.Goals as goal

pub cuts-preserved : goal.cuts-preserved
cuts-preserved g c =
    let part = c.in_ok-split_off.field-0 in
    let pushed : c.push.new.self.items ≡ c.cuts.parts.items ++ part ∷ [] = search rules in
    subst (λ parts. IsPermutation c.args.rows.items (c.split_off.new.self.items ++ rows_of parts)) (sym pushed)
    (one_part_more c.args.rows.items c.cuts.rest.items c.split_off.new.self.items c.cuts.parts.items part c.count_before-before.result c.cuts.invariant c.in_ok-split_off.ensures.items c.in_ok-split_off.ensures.tail)

pub returns : goal.returns
returns g c =
    let pushed : c.push-2.new.self.items ≡ c.cuts.parts.items ++ c.cuts.rest ∷ [] = search rules in
    subst (λ parts. IsPermutation c.args.rows.items (rows_of parts)) (sym pushed) (last_part c.args.rows.items c.cuts.rest c.cuts.parts.items c.cuts.invariant)
