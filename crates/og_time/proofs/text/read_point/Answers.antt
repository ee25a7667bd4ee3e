use Rattle.std.proofs.lemmas.Result.{IfOk-weaker, on_err_weaker}
use Rattle.og_time.proofs.PointTexts.{ends_are_texts, texts_are_ends, texts_are_whole, whole_is_text}
use Rattle.og_time.proofs.text.read_point.Goals as goal

pub returns-in-Some-clause-value : goal.returns-in-Some-clause-value
returns-in-Some-clause-value c = IfOk-weaker c.read_ends.result _ _ (λ p h. ends_are_texts _ _ _ p c.in-Some.ensures.cut.joined h) c.read_ends.ensures.value

pub returns-in-Some-clause-refused : goal.returns-in-Some-clause-refused
returns-in-Some-clause-refused c = on_err_weaker c.read_ends.result (λ no p is. no p (texts_are_ends _ _ _ p c.in-Some.ensures.cut is)) c.read_ends.ensures.refused

pub returns-in-None-clause-value : goal.returns-in-None-clause-value
returns-in-None-clause-value c = IfOk-weaker c.read_whole.result _ _ (λ p h. whole_is_text _ p h) c.read_whole.ensures.value

pub returns-in-None-clause-refused : goal.returns-in-None-clause-refused
returns-in-None-clause-refused c = on_err_weaker c.read_whole.result (λ no p is. no p (texts_are_whole _ p c.in-None.ensures.lacking is)) c.read_whole.ensures.refused
