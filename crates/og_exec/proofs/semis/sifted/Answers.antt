use Rattle.std.proofs.Common.{length, sym, ap, ◌∙◌, arith}
use Rattle.og_plan.specs.Meaning.{meets_semi}
use Rattle.og_exec.specs.Answers.{rel_of}
use Rattle.og_exec.specs.Tables.{rows_at, rows_on}
use Rattle.og_exec.proofs.MatchLemmas.{filter-all, met_more}
use Rattle.og_exec.proofs.semis.sifted.Goals as goal

pub semis-init : goal.semis-init
semis-init g c = record {
  law = λ d day. sym (filter-all (rows_on (rel_of c.args.input) d));
  size = omega arith;
}

pub semis-preserved : goal.semis-preserved
semis-preserved g c =
    let made = c.in_ok-semijoined in
    let met = c.semis.invariant in record {
      law = λ d day.
          met_more (meets_semi d (rows_at (g.T.Tables.named c.args.tables.now) d)) c.args.semis.now c.semis.semi-index c.semi-item.result
          (rows_on (rel_of c.args.input) d) (rows_on c.rel.result.now d) (rows_on made.field-0 d)
          c.semis-test.true c.semi-item.is (ap (λ rel. rows_on rel d) c.rel.ensures ∙ met.law d day) (made.ensures.law d day);
      size = omega (arith, made.ensures.size, met.size, ap length c.rel.ensures);
    }
