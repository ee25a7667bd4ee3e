use Rattle.std.proofs.Common.{◌||◌, sym, ap, ap₂, ◌∙◌}
use Rattle.std.specs.List.{list_any}
use Rattle.std.proofs.lemmas.Result.{IfOk-weaker}
use Rattle.og_rel.specs.Relations.{present}
use Rattle.og_ops.specs.Lending.{lent}
use Rattle.og_ops.proofs.MemberLemmas.{met_in_group, met_in_groups}
use Rattle.og_ops.proofs.semijoins.sought_days.Goals as goal

pub returns-then-groups : goal.returns-then-groups
returns-then-groups g c =
    let at = g.R.Instant.meaning in
    let matching = c.args.matching.now in
    let left = c.args.left.now in
    let sought = sym c.seek.ensures ∙ c.in-Some.is in
    IfOk-weaker c.met_days-then-groups.result _ _ (λ s e d r.
    let t = g.M.Matching.meets matching d (at left d) in
    e d r
    ∙ ap (λ rows. list_any t (present at (lent rows) d)) c.with_key-first.ensures
    ∙ met_in_group (g.M.Matching.standing matching) at t d c.args.members.now c.requires.groups c.in-Some.groups
    (λ row met. g.met.M.Matching.keyed matching left row c.in-Some.groups d r sought met) c.if-groups.true) c.met_days-then-groups.ensures

pub returns : goal.returns
returns g c =
    let at = g.R.Instant.meaning in
    let matching = c.args.matching.now in
    let left = c.args.left.now in
    let sought = sym c.seek.ensures ∙ c.in-Some.is in
    IfOk-weaker c.union.result _ _ (λ s e d r.
    let t = g.M.Matching.meets matching d (at left d) in
    e d
    ∙ ap₂ (λ a b. a || b)
    (c.in_ok-found.ensures d r ∙ ap (λ rows. list_any t (present at (lent rows) d)) c.with_key-first.ensures)
    (c.in_ok-others.ensures d r ∙ ap (λ rows. list_any t (present at (lent rows) d)) c.with_key.ensures)
    ∙ met_in_groups (g.M.Matching.standing matching) at t d c.args.members.now c.requires.groups c.in-Some.groups
    (λ row met. g.met.M.Matching.keyed matching left row c.in-Some.groups d r sought met)) c.union.ensures
