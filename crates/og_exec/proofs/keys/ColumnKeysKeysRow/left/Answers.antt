use Rattle.std.proofs.lemmas.Result.{IfOk-weaker}
use Rattle.og_exec.proofs.keys.ColumnKeysKeysRow.left.Goals as goal

pub returns : goal.returns
returns c = IfOk-weaker c.column_key.result _ _ (λ k e d day. e d) c.column_key.ensures
