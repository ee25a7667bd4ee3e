use Rattle.std.proofs.Common.{◌||◌, ap, ◌∙◌, rules}
use Rattle.std.specs.List.{list_any}
use Rattle.og_ops.proofs.MemberLemmas.{members_more}
use Rattle.og_ops.proofs.semijoins.members_of.Goals as goal

pub rows-preserved : goal.rows-preserved
rows-preserved g c =
    let row = c.row-row.result.now in
    let days = c.days.result.now in
    members_more (g.M.Matching.standing c.args.matching.now) c.args.rel.now c.rows.members.items _ c.rows.i row days (search rules) c.row-row.ensures c.days.ensures c.rows.invariant
    (λ test. c.in_ok-enter.ensures test
    ∙ ap (λ n. list_any (λ s. test s.key (s.row.now, s.days.now)) c.rows.members.items || (test n.first (row, days) || test n.second (row, days))) c.groups.ensures)
