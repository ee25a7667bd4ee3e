use Rattle.std.proofs.Common.{◌≡◌, ◌++◌, ◌∷◌, [], ℕ, List, Result, Ok, Err, OnErr, ◌∙◌, ap, sym, append_assoc}
use Rattle.std.proofs.lemmas.List.{append-nil}
use Rattle.og_base.specs.Told.{IsPrefix}
use Rattle.og_time.specs.Period.{bracketed}
use Rattle.og_time.proofs.period_text.append_period.Goals as goal

-- what holds anyhow holds after an error
on_err : {T E P : Type 0} (r : Result T E) → P → OnErr r P
on_err (Ok t) p = tt
on_err (Err e) p = p

-- bytes begin with themselves, and still do with more behind them
whole : (old now : List ℕ) → now ≡ old → IsPrefix old now
whole old now e = ([], e ∙ sym (append-nil old))

begun : (old more now : List ℕ) → now ≡ old ++ more → IsPrefix old now
begun old more now e = (more, e)

longer : (old now more new : List ℕ) → IsPrefix old now → new ≡ now ++ more → IsPrefix old new
longer old now more new (rest, e) f = (rest ++ more, f ∙ ap (λ x. x ++ more) e ∙ append_assoc old rest more)

-- the parts, one after the other, are the text
put_in_turn : (o a b c d e p q : List ℕ) → a ≡ o ++ 91 ∷ [] → b ≡ a ++ p → c ≡ b ++ 44 ∷ [] → d ≡ c ++ q → e ≡ d ++ 41 ∷ [] → e ≡ o ++ bracketed p q
put_in_turn o a b c d e p q g h i j k = k ∙ ap (λ x. x ++ 41 ∷ []) (j ∙ ap (λ x. x ++ q) (i ∙ ap (λ x. x ++ 44 ∷ []) (h ∙ ap (λ x. x ++ p) g))) ∙ simp append_assoc

pub returns-in_err-push-clause-refused : goal.returns-in_err-push-clause-refused
returns-in_err-push-clause-refused c = on_err _ (whole _ _ c.in_err-push.ensures.items)

pub returns-in_err-write_point-clause-refused : goal.returns-in_err-write_point-clause-refused
returns-in_err-write_point-clause-refused c = on_err _ (begun _ _ _ (c.in_err-write_point.ensures.refused ∙ c.in_ok-push.ensures.items))

pub returns-in_err-push-2-clause-refused : goal.returns-in_err-push-2-clause-refused
returns-in_err-push-2-clause-refused c =
    on_err _ (longer _ _ _ _ (begun _ _ _ c.in_ok-push.ensures.items) (c.in_err-push-2.ensures.items ∙ c.in_ok-write_point.ensures.written))

pub returns-in_err-write_point-2-clause-refused : goal.returns-in_err-write_point-2-clause-refused
returns-in_err-write_point-2-clause-refused c =
    on_err _ (longer _ _ _ _ (longer _ _ _ _ (begun _ _ _ c.in_ok-push.ensures.items) c.in_ok-write_point.ensures.written) (c.in_err-write_point-2.ensures.refused ∙ c.in_ok-push-2.ensures.items))

pub returns-in_err-push-3-clause-refused : goal.returns-in_err-push-3-clause-refused
returns-in_err-push-3-clause-refused c =
    on_err _ (longer _ _ _ _ (longer _ _ _ _ (longer _ _ _ _ (begun _ _ _ c.in_ok-push.ensures.items) c.in_ok-write_point.ensures.written) c.in_ok-push-2.ensures.items)
    (c.in_err-push-3.ensures.items ∙ c.in_ok-write_point-2.ensures.written))

pub returns-clause-written : goal.returns-clause-written
returns-clause-written c =
    rw (← c.start.ensures.point, ← c.end.ensures.point)
    (put_in_turn _ _ _ _ _ _ _ _ c.in_ok-push.ensures.items c.in_ok-write_point.ensures.written c.in_ok-push-2.ensures.items c.in_ok-write_point-2.ensures.written c.in_ok-push-3.ensures.items)
