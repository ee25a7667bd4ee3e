use Rattle.std.proofs.Common.{length, sym, ◌∙◌}
use Rattle.og_db.specs.Effects.{sizes_after}
use Rattle.og_db.specs.Runs.{sizes_at}
use Rattle.og_db.proofs.SizeLemmas.{within-known}
use Rattle.og_db.proofs.WorldLemmas.{known_of-made_of}
use Rattle.og_db.proofs.laws.known_names.Goals as goal

pub returns : goal.returns
returns c db files effects is = λ i name. (sym (known_of-made_of length db name) ∙ within-known name (sizes_at db) (sizes_after effects).names is.sizes) i
