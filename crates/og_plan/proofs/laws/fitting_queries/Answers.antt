use Rattle.og_plan.proofs.PremiseLemmas.{fit_have_tables, fit_are_in_range, fit_are_named}
use Rattle.og_plan.proofs.laws.fitting_queries.Goals as goal

pub returns-clause-tables : goal.returns-clause-tables
returns-clause-tables c = fit_have_tables

pub returns-clause-range : goal.returns-clause-range
returns-clause-range c = fit_are_in_range

pub returns-clause-named : goal.returns-clause-named
returns-clause-named c = fit_are_named
