use Rattle.std.proofs.Common.{sym, ap, ◌∙◌}
use Rattle.std.specs.Option.{option_map}
use Rattle.og_expr.proofs.ColumnLemmas.{no_value_there}
use Rattle.og_expr.proofs.values.column.Goals as goal

pub returns-in-None : goal.returns-in-None
returns-in-None c d = no_value_there c.args.columns.now c.args.place d (sym c.get.ensures ∙ ap (option_map (λ v. v.now)) c.in-None.is)
