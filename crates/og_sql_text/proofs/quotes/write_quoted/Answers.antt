use Rattle.std.proofs.Common.{◌∙◌}
use Rattle.og_sql_text.proofs.QuoteLemmas.{doubled-more}
use Rattle.og_sql_text.proofs.quotes.write_quoted.Goals as goal

pub bytes-preserved : goal.bytes-preserved
bytes-preserved c = c.in_ok-put_quoted.ensures ∙ doubled-more c.bytes.out.items c.args.out.now.items c.args.bytes.now c.bytes.b-index c.bytes-test.true c.bytes.invariant
