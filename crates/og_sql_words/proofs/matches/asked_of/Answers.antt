use Rattle.og_sql_words.proofs.Targets.{is_target, no_live, no_spread}
use Rattle.og_sql_words.proofs.matches.asked_of.Goals as goal

pub returns-in_default-clause-wrong : goal.returns-in_default-clause-wrong
returns-in_default-clause-wrong c _ = no_live _ _ c.in_default.ensures c.value_of-2.ensures

pub returns-in-Ok-clause-sql : goal.returns-in-Ok-clause-sql
returns-in-Ok-clause-sql c =
    is_target _ _ _ _ _ _ _ _ c.explain_of-explain.ensures c.value_of.ensures c.in-Some.ensures c.value_of-2.ensures c.in-Ok.ensures.spread c.value_of-3.ensures c.value_of-4.ensures

pub returns-in-Err-clause-wrong : goal.returns-in-Err-clause-wrong
returns-in-Err-clause-wrong c e = no_spread _ _ _ (c.in-Err.ensures.wrong (cc e)) c.value_of-3.ensures c.value_of-4.ensures
