use Rattle.og_value.specs.declared.schema.Column.{Column}
use Rattle.og_value.specs.declared.kind.Kind.{Kind}
use Rattle.og_plan.proofs.TreeLemmas.{appended_more}
use Rattle.og_plan.proofs.cores.add_kinds.Goals as goal

-- the kind of a column
abbrev kind : Column → Kind
kind column = column.kind

pub columns-preserved : goal.columns-preserved
columns-preserved c = appended_more kind c.args.schema.now c.columns.i c.column.result.now _ _ _ c.column.ensures c.columns.invariant c.in_ok-push.ensures.items
