use Rattle.std.proofs.Common.{rules, is_lt}
use Rattle.std.specs.Ordering.{nat_cmp}
use Rattle.std.proofs.lemmas.Cmp.{nat_cmp_total}
use Rattle.std.proofs.lemmas.Fn.{always_returns_same}
use Rattle.std.proofs.lemmas.List.Sorted.{ranks_by}
use Rattle.og_ops.proofs.MemberLemmas.{members_moved, members_lent, members_present}
use Rattle.og_ops.proofs.semijoins.by_group.Goals as goal

pub returns-clause-rising : goal.returns-clause-rising
returns-clause-rising g c =
    c.in_ok-sort_by.ensures.sorted (λ a b. is_lt (nat_cmp a.key b.key)) (ranks_by nat_cmp_total (λ s. s.key)) (always_returns_same _ _ _ (λ a r f k. search rules))

pub returns-clause-groups : goal.returns-clause-groups
returns-clause-groups g c =
    let standing = g.M.Matching.standing c.args.matching.now in
    members_lent standing c.args.rel.now _ (members_moved standing c.args.rel.now _ _ c.in_ok-sort_by.ensures.permutation c.in_ok-members.ensures)

pub returns-clause-rows : goal.returns-clause-rows
returns-clause-rows g c t d =
    let standing = g.M.Matching.standing c.args.matching.now in
    members_present standing g.R.Instant.meaning t d c.args.rel.now _ (members_moved standing c.args.rel.now _ _ c.in_ok-sort_by.ensures.permutation c.in_ok-members.ensures)
