use Rattle.std.proofs.Common.{sym, ◌∙◌}
use Rattle.std.specs.Ordering.{is_le}
use Rattle.og_ops.proofs.KeyLemmas.{first_that_fails}
use Rattle.og_ops.proofs.semijoins.count_within.Goals as goal

pub returns-then-not-is_within-clause-within : goal.returns-then-not-is_within-clause-within
returns-then-not-is_within-clause-within g c =
    first_that_fails (λ other. is_le (g.K.Ord.cmp other.key c.args.key.now)) c.args.rows.now c.requires c.rows.i c.index-rows-i.result c.rows-test.true c.rows.invariant c.index-rows-i.is (sym c.is_within.ensures ∙ c.if-not-is_within.true)
