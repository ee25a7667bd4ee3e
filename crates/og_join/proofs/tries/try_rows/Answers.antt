use Rattle.std.proofs.Common.{◌≡◌, ◌≤◌, ◌⊎◌, inl, inr, ℤ, List, [], ◌∷◌, IfSome, IsNone, length, sym, subst, arith, rules}
use Rattle.og_base.specs.Calendar.{IsRefDay}
use Rattle.og_base.specs.Ranges.{Range, holds_day}
use Rattle.og_ops.specs.Days.{is_hit, OnNoDay}
use Rattle.og_rel.proofs.PresentLemmas.{at_place}
use Rattle.og_join.specs.Tried.{do_meet}
use Rattle.og_join.proofs.PlaceTests.{at_both-past}
use Rattle.og_join.proofs.TryLemmas.{rows_meet-no_day, rows_meet-hit}
use Rattle.og_join.proofs.tries.try_rows.Goals as goal
use Rattle.og_join.proofs.tries.try_rows.Goals.{then-m-len-via-then-m-len, then-m-len-via-else-m-len+then-n-len}

pub returns-then-m-len : goal.returns-then-m-len
returns-then-m-len g c =
    let past : (length c.args.left.now ≤ c.args.m) ⊎ (length c.args.right.now ≤ c.args.n) =
    elim c.then-m-len.branch [ then-m-len-via-then-m-len w ↦ inl (search arith) | then-m-len-via-else-m-len+then-n-len w ↦ inr (search arith) ] in
    ([], (omega arith, λ t d r. sym (at_both-past (do_meet g.R.Glue.glued g.R.Instant.meaning (g.C.DayCond.holds c.args.cond.now) (λ x. t (g.M.PairMap.image c.args.pair_map.now d x)) d) c.args.left.now c.args.right.now c.args.m c.args.n past)), search rules)

pub returns-in_ok-push-in-Some : goal.returns-in_ok-push-in-Some
returns-in_ok-push-in-Some g c =
    let at = g.R.Instant.meaning in
    let glued = g.R.Glue.glued in
    let holds = g.C.DayCond.holds c.args.cond.now in
    let p : g.row.R.Denot × List Range = (c.row.result.now, c.days.result.now) in
    let q : g.row.R.Denot × List Range = (c.row-2.result.now, c.days-2.result.now) in
    let image = g.M.PairMap.image c.args.pair_map.now in
    let row_is = subst (λ o. IfSome o (λ h. (d : ℤ) → IsRefDay d → at h.row d ≡ image d (glued (at p.0 d) (at q.0 d)))) c.in-Some.is c.in_ok-hit.ensures.row in
    let days_are = subst (λ o. IfSome o (λ h. (d : ℤ) → IsRefDay d → holds_day h.days d ≡ is_hit glued holds (at p.0) (at q.0) p.1 q.1 d)) c.in-Some.is c.in_ok-hit.ensures.days in (
      c.in-Some.hit ∷ [],
      (
        omega arith,
        λ t d r. rows_meet-hit glued at holds c.args.left.now c.args.right.now c.args.m c.args.n p q (search arith) (search arith)
            (at_place _ c.args.m _ _ c.row.ensures c.days.ensures) (at_place _ c.args.n _ _ c.row-2.ensures c.days-2.ensures) d (image d) t c.in-Some.hit (days_are d r) (row_is d r),
      ),
      c.in_ok-push-in-Some.ensures.items,
    )

pub returns-in-None : goal.returns-in-None
returns-in-None g c =
    let at = g.R.Instant.meaning in
    let glued = g.R.Glue.glued in
    let holds = g.C.DayCond.holds c.args.cond.now in
    let p : g.row.R.Denot × List Range = (c.row.result.now, c.days.result.now) in
    let q : g.row.R.Denot × List Range = (c.row-2.result.now, c.days-2.result.now) in
    let none = subst (λ o. IsNone o → OnNoDay (is_hit glued holds (at p.0) (at q.0) p.1 q.1)) c.in-None.is c.in_ok-hit.ensures.no_day (search rules) in (
      [],
      (
        omega arith,
        λ t d r. rows_meet-no_day glued at holds c.args.left.now c.args.right.now c.args.m c.args.n p q (search arith) (search arith)
            (at_place _ c.args.m _ _ c.row.ensures c.days.ensures) (at_place _ c.args.n _ _ c.row-2.ensures c.days-2.ensures) d (λ x. t (g.M.PairMap.image c.args.pair_map.now d x)) (none d r),
      ),
      search rules,
    )
