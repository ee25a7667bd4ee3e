use Rattle.og_session.proofs.CatalogLemmas.{known_of_day, tables_of_day}
use Rattle.og_session.proofs.law.one_catalog.Goals as goal

pub returns-clause-tables : goal.returns-clause-tables
returns-clause-tables c = tables_of_day

pub returns-clause-known : goal.returns-clause-known
returns-clause-known c = known_of_day
