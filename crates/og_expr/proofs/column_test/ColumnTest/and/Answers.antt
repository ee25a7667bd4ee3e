use Rattle.std.proofs.Common.{◌≡◌, true, slice_get, sym, subst}
use Rattle.og_expr.specs.ColumnTests.{stands_between}
use Rattle.og_expr.proofs.ColumnLemmas.{between-both}
use Rattle.og_expr.proofs.column_test.ColumnTest.and.Goals as goal

pub returns : goal.returns
returns c row one other =
    between-both c.args.self.least c.args.self.greatest c.args.other.least c.args.other.greatest c.greater.result c.less.result c.greater.ensures c.less.ensures
    (slice_get row c.args.self.column) one (subst (λ column. stands_between c.args.other.least c.args.other.greatest (slice_get row column) ≡ true) (sym c.if-self-other.false) other)
