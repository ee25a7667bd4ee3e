use Rattle.std.proofs.Common.{◌≡◌, ℤ, [], ◌∷◌, IfSome, IsNone, refl, sym, subst}
use Rattle.std.proofs.lemmas.List.{append-nil}
use Rattle.og_base.specs.Calendar.{IsRefDay}
use Rattle.og_base.specs.Ranges.{holds_day}
use Rattle.og_ops.specs.Days.{is_hit, OnNoDay}
use Rattle.og_join.proofs.SameKeyLemmas.{AreHits-one, AreHits-none}
use Rattle.og_join.proofs.same_key.try_pair.Goals as goal

pub returns-in_ok-push-in-Some : goal.returns-in_ok-push-in-Some
returns-in_ok-push-in-Some g c =
    let at = g.R.Instant.meaning in
    let glued = g.R.Glue.glued in
    let holds = g.C.DayCond.holds c.args.cond.now in
    let left = c.args.left.now in
    let right = c.args.right.now in
    let image = g.M.PairMap.image c.args.pair_map.now in
    let row_is = subst (λ o. IfSome o (λ h. (d : ℤ) → IsRefDay d → at h.row d ≡ image d (glued (at left d) (at right d)))) c.in-Some.is c.in_ok-hit.ensures.row in
    let days_are = subst (λ o. IfSome o (λ h. (d : ℤ) → IsRefDay d → holds_day h.days d ≡ is_hit glued holds (at left) (at right) c.args.left_days.now c.args.right_days.now d)) c.in-Some.is c.in_ok-hit.ensures.days in
    (c.in-Some.hit ∷ [], AreHits-one at glued image holds left c.args.left_days.now right c.args.right_days.now c.in-Some.hit row_is days_are, c.in_ok-push-in-Some.ensures.items)

pub returns-in-None : goal.returns-in-None
returns-in-None g c =
    let at = g.R.Instant.meaning in
    let glued = g.R.Glue.glued in
    let holds = g.C.DayCond.holds c.args.cond.now in
    let left = c.args.left.now in
    let right = c.args.right.now in
    let none = subst (λ o. IsNone o → OnNoDay (is_hit glued holds (at left) (at right) c.args.left_days.now c.args.right_days.now)) c.in-None.is c.in_ok-hit.ensures.no_day in
    ([], AreHits-none at glued (g.M.PairMap.image c.args.pair_map.now) holds left c.args.left_days.now right c.args.right_days.now (none refl), sym (append-nil c.args.out.now.items))
