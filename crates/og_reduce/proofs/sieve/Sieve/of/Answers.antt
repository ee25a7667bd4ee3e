use Rattle.std.proofs.Common.{◌+◌}
use Rattle.og_reduce.proofs.SieveLemmas.{meets-sum, passes-more}
use Rattle.og_reduce.proofs.sieve.Sieve.of.Goals as goal

pub columns-preserved : goal.columns-preserved
columns-preserved c row passing =
    let both = passes-more c.args.start c.args.columns.now c.columns.i c.index-columns-i.result row c.columns-test.true c.index-columns-i.is passing in
    c.in_ok-add_test.ensures row (c.columns.invariant row both.0) (λ place is. meets-sum c.checked_add.result _ (c.args.start + c.columns.i) place c.index-columns-i.result row c.checked_add.ensures is both.1)
