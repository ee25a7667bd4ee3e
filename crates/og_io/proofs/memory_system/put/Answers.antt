use Rattle.std.proofs.Common.{arith}
use Rattle.std.proofs.lemmas.Map.Text.{text_keys}
use Rattle.og_io.proofs.memory_system.put.Goals as goal

pub returns-clause-others : goal.returns-clause-others
returns-clause-others c = λ other apart. grind (arith, text_keys)
