use Rattle.std.proofs.Common.{◌≡◌, ◌∙◌, ap, refl}
use Rattle.std.proofs.Math.Bool.{and_comm}
use Rattle.std.proofs.lemmas.Result.{IfOk-weaker}
use Rattle.og_base.specs.Ranges.{holds_day}
use Rattle.og_base.proofs.SpanLemmas.{meet_all}
use Rattle.og_base.proofs.rt_set.RtSet.meet.Goals as goal

pub returns-in-Some-None : goal.returns-in-Some-None
returns-in-Some-None c =
    IfOk-weaker c.copy.result (λ s. s ≡ c.args.other.now) _
    (λ s same d.
    let held = rw (c.as_slice-left.ensures, c.self.view_is) at c.in-Some-None.ensures.span d in
    ap (λ x. holds_day x d) same
    ∙ meet_all c.in-Some-None.mine c.args.self.now c.args.other.now c.other.inside.boundaries d c.other.view_is c.other.invariant held (c.if-is_all.ensures.0 refl))
    c.copy.ensures

pub returns-in-None-Some : goal.returns-in-None-Some
returns-in-None-Some c =
    IfOk-weaker c.copy-in-None-Some.result (λ s. s ≡ c.args.self.now) _
    (λ s same d.
    let held = rw (c.as_slice-right.ensures, c.other.view_is) at c.in-None-Some.ensures.span d in
    ap (λ x. holds_day x d) same
    ∙ meet_all c.in-None-Some.theirs c.args.other.now c.args.self.now c.self.inside.boundaries d c.self.view_is c.self.invariant held (c.if-is_all-2.ensures.0 refl)
    ∙ and_comm (holds_day c.args.other.now d) (holds_day c.args.self.now d))
    c.copy-in-None-Some.ensures
