use Rattle.og_query.specs.Queries.{ordinary_query}
use Rattle.og_query.specs.Sizes.{query_size}
use Rattle.og_db.specs.Runs.{live_of}
use Rattle.og_db.specs.Statements.{named_rows, named_sizes, names_after, name_sizes_after}
use Rattle.og_db.proofs.EffectLemmas.{one_more}
use Rattle.og_db.proofs.LiveLemmas.{followed-none}
use Rattle.og_db.proofs.SizeLemmas.{within-refl}
use Rattle.og_db.proofs.laws.one_statement_more.Goals as goal

pub returns-clause-done : goal.returns-clause-done
returns-clause-done c = one_more

pub returns-clause-same : goal.returns-clause-same
returns-clause-same c = within-refl

pub returns-clause-no_live_names : goal.returns-clause-no_live_names
returns-clause-no_live_names c effects stmt before now d names = followed-none (λ after. ordinary_query d (named_rows after)) (live_of effects) stmt.0 before now (names_after d names stmt)

pub returns-clause-no_live_sizes : goal.returns-clause-no_live_sizes
returns-clause-no_live_sizes c effects stmt before now sizes = followed-none (λ after. query_size (named_sizes after)) (live_of effects) stmt.0 before now (name_sizes_after sizes stmt)
