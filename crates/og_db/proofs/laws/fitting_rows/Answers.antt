use Rattle.og_db.proofs.FitLemmas.{fit_from_days, fit_on_day}
use Rattle.og_db.proofs.laws.fitting_rows.Goals as goal

pub returns-clause-on_a_day : goal.returns-clause-on_a_day
returns-clause-on_a_day c = fit_on_day

pub returns-clause-on_all_days : goal.returns-clause-on_all_days
returns-clause-on_all_days c = fit_from_days
