use Rattle.std.proofs.Common.{ap, length, ◌∙◌, arith}
use Rattle.og_view.proofs.AgainLemmas.{sifted-no_tests}
use Rattle.og_view.proofs.part.PartRows.of_table.Goals as goal

pub returns-then-len-eq0 : goal.returns-then-len-eq0
returns-then-len-eq0 c = c.rel.ensures ∙ sifted-no_tests c.args.sieve.now (omega (arith, ap length c.sieve.view_is, c.len.ensures, c.if-len-eq0.true)) c.args.table.now
