use Rattle.std.proofs.Common.{refl, inl, inr}
use Rattle.std.proofs.lemmas.Result.{IfOk-weaker, on_err_weaker}
use Rattle.og_time.proofs.PointTexts.{made}
use Rattle.og_time.proofs.text.read_whole.Goals as goal

pub returns-in_default-clause-value : goal.returns-in_default-clause-value
returns-in_default-clause-value c = IfOk-weaker c.read_now.result _ _ (λ p h. inr h) c.read_now.ensures.value

pub returns-in_default-clause-refused : goal.returns-in_default-clause-refused
returns-in_default-clause-refused c = on_err_weaker c.read_now.result (λ no p is. elim is [ inl fixed ↦ c.in_default.ensures.refused p.low fixed.0 | inr now ↦ no p now ]) c.read_now.ensures.refused

pub returns-clause-value : goal.returns-clause-value
returns-clause-value c =
    let m = made _ _ _ _ _ c.new.ensures c.ok_or.ensures.value in
    IfOk-weaker c.ok_or.result _ _ (λ p h. rw h.1 (inl (c.in-Ok.ensures.value, refl))) m.0
