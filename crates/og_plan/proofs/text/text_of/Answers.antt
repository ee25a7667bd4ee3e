use Rattle.std.proofs.Common.{refl}
use Rattle.std.specs.List.{flat_map}
use Rattle.og_plan.specs.Text.{line_text}
use Rattle.og_plan.proofs.LoopLemmas.{made_more, all_walked}
use Rattle.og_plan.proofs.text.text_of.Goals as goal

pub lines-preserved : goal.lines-preserved
lines-preserved c =
    made_more line_text c.args.lines.now c.lines.line-index c.line-item.result c.lines.text.items _ c.lines-test.true c.line-item.is c.lines.invariant c.in_ok-write.ensures

pub returns : goal.returns
returns c = all_walked (flat_map line_text) c.args.lines.now _ c.lines.line-index c.lines.text.items refl c.lines-test.false c.lines.invariant
