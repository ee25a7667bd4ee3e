use Rattle.std.proofs.Common.{◌≡◌, take}
use Rattle.std.specs.List.{flat_map}
use Rattle.og_plan.specs.Text.{line_text}
use Rattle.og_plan.proofs.text.text_of.Given as goal

abbrev pub invariant-lines : goal.invariant-lines
invariant-lines l = l.text.items ≡ flat_map line_text (take l.line-index l.lines)
