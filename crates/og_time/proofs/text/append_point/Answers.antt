use Rattle.std.proofs.Common.{◌≡◌, ◌∙◌, sym, true, false}
use Rattle.std.proofs.lemmas.Result.{on_ok_weaker}
use Rattle.std.specs.Ordering.{int_eq}
use Rattle.og_time.proofs.PointWriting.{point_text-fixed, point_text-now, point_text-ends, sides_appended}
use Rattle.og_time.proofs.text.append_point.Goals as goal

pub returns-then-eq-clause-written : goal.returns-then-eq-clause-written
returns-then-eq-clause-written c =
    let same : int_eq c.args.p.low c.args.p.high ≡ true = rw (← c.low.ensures, ← c.high.ensures) (sym c.eq.ensures ∙ c.if-eq.true) in
    rw (point_text-fixed c.args.p same, ← c.low-then-eq.ensures) c.write_day.ensures.written

pub returns-then-is_now-clause-written : goal.returns-then-is_now-clause-written
returns-then-is_now-clause-written c =
    let other : int_eq c.args.p.low c.args.p.high ≡ false = rw (← c.low.ensures, ← c.high.ensures) (sym c.eq.ensures ∙ c.if-eq.false) in
    rw (point_text-now c.args.p other (sym c.is_now.ensures ∙ c.if-is_now.true)) c.in_ok-extend_from_slice.ensures.items

pub returns-clause-written : goal.returns-clause-written
returns-clause-written c =
    let other : int_eq c.args.p.low c.args.p.high ≡ false = rw (← c.low.ensures, ← c.high.ensures) (sym c.eq.ensures ∙ c.if-eq.false) in
    rw (point_text-ends c.args.p other (sym c.is_now.ensures ∙ c.if-is_now.false), ← c.low-2.ensures, ← c.high-2.ensures)
    (on_ok_weaker c.append_end-2.result (λ h. sides_appended _ _ _ _ _ _ c.in_ok-append_end.ensures.written c.in_ok-push.ensures.items h) c.append_end-2.ensures.written)
