use Rattle.std.proofs.Common.{sym, ◌∙◌, rules}
use Rattle.og_rel.specs.Relations.{present}
use Rattle.og_ops.proofs.EachLemmas.{unpassed}
use Rattle.og_ops.proofs.each_row.put_passing.Goals as goal

pub returns-then-not-test-clause-rows : goal.returns-then-not-test-clause-rows
returns-then-not-test-clause-rows g c d r =
    unpassed (g.O.EachRow.becomes c.args.op.now d) (λ xs ys. g.met.O.EachRow.along c.args.op.now d xs ys) g.R.Instant.meaning (g.T.RowTest.passes c.args.test.now)
    c.args.pair.now.row c.args.pair.now.days (present g.R.Instant.meaning c.args.made.now d) d (search rules)
