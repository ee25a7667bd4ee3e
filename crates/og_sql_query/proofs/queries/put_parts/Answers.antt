use Rattle.og_sql_query.proofs.queries.put_parts.Goals as goal

pub plan_of-plan-requires-clause-range : goal.plan_of-plan-requires-clause-range
plan_of-plan-requires-clause-range c = c.fitting_queries.ensures.range c.requires.fits.0 c.args.query.now c.requires.fits.1
