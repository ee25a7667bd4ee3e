use Rattle.std.proofs.Common.{◌++◌, ◌-◌, arith, ap, length, map, reverse, refl}
use Rattle.std.specs.List.{flat_map}
use Rattle.std.proofs.lemmas.List.{take_all}
use Rattle.og_plan.specs.Text.{line_text, lines_from}
use Rattle.og_plan.specs.Words.{semi_words}
use Rattle.og_plan.proofs.TextLemmas.{semis_step, semis_done}
use Rattle.og_plan.proofs.text.add_semis.Goals as goal

pub semis-init : goal.semis-init
semis-init c = record {
  level = refl;
  left = ap (λ semis. flat_map line_text c.args.lines.now.items ++ lines_from c.args.level (map semi_words (reverse semis))) (take_all (length c.args.semis.now) c.args.semis.now (omega arith));
}

pub semis-preserved : goal.semis-preserved
semis-preserved c =
    let semi = c.index-semis-k.result in record {
      level = omega (arith, c.semis.invariant.level, c.in_ok-next.ensures.level, c.semis-test.true);
      left =
          semis_step c.args.semis.now c.semis.k (c.semis.k - 1) c.semis.next c.in_ok-next.next semi (flat_map line_text c.semis.lines.items) _ _ (omega arith) c.semis.auto.k c.index-semis-k.is c.in_ok-next.ensures.level
          (c.in_ok-next.ensures.lines (semi_words semi) c.semi_words.ensures) c.semis.invariant.left;
    }

pub returns-clause-lines : goal.returns-clause-lines
returns-clause-lines c = semis_done c.args.semis.now c.semis.k c.semis.next _ _ c.semis-test.false c.semis.invariant.left
