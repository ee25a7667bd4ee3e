use Rattle.og_sql_query.proofs.selects.plan_of_select.Goals as goal

pub plan_of-plan-requires-clause-range : goal.plan_of-plan-requires-clause-range
plan_of-plan-requires-clause-range c =
    c.fitting_queries.ensures.range (c.in_ok-query.ensures c.requires.fits).0 c.in_ok-query.query (c.in_ok-query.ensures c.requires.fits).1
