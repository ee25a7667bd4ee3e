use Rattle.std.proofs.Common.{length}
use Rattle.og_value.specs.Order.{row_order}
use Rattle.og_value.specs.Values.{row_at}
use Rattle.og_rel.specs.Relations.{relation_at}
use Rattle.og_db.proofs.WorldLemmas.{found-made_of}
use Rattle.og_db.proofs.laws.found_names.Goals as goal

pub returns-clause-rows : goal.returns-clause-rows
returns-clause-rows c d = found-made_of (λ rel. relation_at row_order row_at rel d)

pub returns-clause-sizes : goal.returns-clause-sizes
returns-clause-sizes c = found-made_of length
