use Rattle.std.proofs.Common.{◌≡◌, ◌≢◌, ◌<◌, ◌+◌, suc, length, get_or, swap, sym, subst, ◌∙◌, arith}
use Rattle.og_rel.proofs.PlaceLemmas.{AreKept, kept-all, kept-in, kept-none, kept-out}
use Rattle.og_rel.proofs.places.remove_at.Goals as goal
use Rattle.og_rel.proofs.places.remove_at.Goals.{then-k-at+then-at-k, else-k-at, else-k-at-via-then-k-at+else-at-k, else-k-at-via-else-k-at}

pub items-init : goal.items-init
items-init g c = kept-none c.args.at.now c.args.items.now.items c.requires

pub swap-requires-clause-i_in_bounds : goal.swap-requires-clause-i_in_bounds
swap-requires-clause-i_in_bounds g c = omega (arith, c.items.invariant.before, c.items.invariant.long, c.items-test.true)

pub overflow_add-kept : goal.overflow_add-kept
overflow_add-kept g c = omega (arith, c.items.invariant.before, c.items-test.true)

pub items-preserved : goal.items-preserved
items-preserved g c =
    let at = c.args.at.now in
    let old = c.args.items.now.items in
    let now = c.items.items.items in
    let kept = c.items.kept in
    let k = c.items.k in
    let i = c.items.i in
    let within : i < length now = omega (arith, c.items-test.true, c.items.invariant.long) in
    let next : suc i ≡ i + 1 = omega arith in
    subst (λ j. AreKept at old c.if-k-at.kept c.if-k-at.k j c.if-k-at.items.items) next
    (elim c.if-k-at.branch [
      | then-k-at+then-at-k w ↦
          subst (λ l. AreKept at old c.if-k-at.kept c.if-k-at.k (suc i) l.items) (sym w.items-is)
          (subst (λ n. AreKept at old n c.if-k-at.k (suc i) now) (sym w.kept-is)
          (subst (λ n. AreKept at old kept n (suc i) now) (omega (arith, w.k-is))
          (kept-out at old kept k i now (omega (arith, w.if-k-at.true)) w.if-at-k.true within c.items.invariant)))
      | else-k-at w ↦
          let other : k < length at → get_or at k 0 ≢ i = elim w.else-k-at.branch [
            | else-k-at-via-then-k-at+else-at-k w' ↦ λ there is. w'.if-at-k.false is
            | else-k-at-via-else-k-at w' ↦ λ there is. omega (arith, w'.if-k-at.false, there)
          ] in
          subst (λ l. AreKept at old c.if-k-at.kept c.if-k-at.k (suc i) l.items) (sym w.items-is)
          (subst (λ l. AreKept at old c.if-k-at.kept c.if-k-at.k (suc i) l) (sym w.swap.ensures.items)
          (subst (λ n. AreKept at old n c.if-k-at.k (suc i) (swap now kept i)) (omega (arith, w.kept-is))
          (subst (λ n. AreKept at old (suc kept) n (suc i) (swap now kept i)) (sym w.k-is)
          (kept-in at old kept k i now other within c.items.invariant))))
    ])

pub returns : goal.returns
returns g c = c.truncate.ensures.items ∙ kept-all c.args.at.now c.args.items.now.items c.items.kept c.items.k c.items.i c.items.items.items (omega (arith, c.items-test.false, c.items.invariant.long)) c.items.invariant
