use Rattle.std.proofs.Common.{rules}
use Rattle.og_print.specs.Conditions.{cond_words}
use Rattle.og_print.proofs.Texts.{one_more}
use Rattle.og_print.proofs.conditions.+conditions.Goals as goal

pub write_all-parts-preserved : goal.write_all-parts-preserved
write_all-parts-preserved t c =
    one_more c.parts.is_first c.args.sort (λ x. cond_words x c.args.place) c.parts.out.items c.separator.new.out.items c.write_cond.new.out.items _ c.as_slice-part-items.result.now c.parts.part-index c.part-item.result _ c.parts-test.true c.part-item.is (search rules) (search rules) c.parts.invariant
