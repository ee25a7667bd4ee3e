use Rattle.std.proofs.Common.{◌∙◌, ◌∷◌, []}
use Rattle.og_check.proofs.Parts.{left_got}
use Rattle.og_check.proofs.StarLemmas.{star_next}
use Rattle.og_check.proofs.cores.add_columns.Goals as goal

pub columns-preserved : goal.columns-preserved
columns-preserved c = star_next c.columns.all.exprs c.columns.all.columns.items (c.column.result.now ∷ []) _ _ _ _ (left_got c.args.columns.now c.columns.i c.column.result.now c.column.ensures) c.in_ok-add_column.ensures ∙ c.columns.invariant
