use Rattle.std.proofs.Common.{refl}
use Rattle.og_db.proofs.laws.no_statements.Goals as goal

pub returns : goal.returns
returns c = record { names = λ d day. refl; saved = λ d day. refl; sizes = tt; saved_sizes = tt }
