use Rattle.std.proofs.Common.{sym}
use Rattle.og_base.proofs.SetLemmas.{set_of-rising}
use Rattle.og_query.specs.Queries.{ordinary_query}
use Rattle.og_rel.proofs.AlgebraLemmas.{Contains-union, Contains-except, Contains-intersect}
use Rattle.og_query.proofs.QueryLemmas.{rows_ordered, answer_rises}
use Rattle.og_query.proofs.laws.answers_are_sets.Goals as goal

pub returns-clause-union : goal.returns-clause-union
returns-clause-union c = Contains-union rows_ordered

pub returns-clause-except : goal.returns-clause-except
returns-clause-except c = Contains-except rows_ordered

pub returns-clause-intersect : goal.returns-clause-intersect
returns-clause-intersect c = Contains-intersect rows_ordered

pub returns-clause-rising : goal.returns-clause-rising
returns-clause-rising c d rows query = sym (set_of-rising rows_ordered (ordinary_query d rows query) (answer_rises d rows query))
