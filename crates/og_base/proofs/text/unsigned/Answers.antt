use Rattle.std.proofs.Common.{ap, unsigned_abs, ◌∙◌}
use Rattle.std.specs.Int.{w16}
use Rattle.std.proofs.lemmas.Int.{to_z-of_z}
use Rattle.og_base.proofs.TextForms.{whole}
use Rattle.og_base.proofs.text.unsigned.Goals as goal

pub returns : goal.returns
returns c = whole c.args.year c.unsigned_abs.result c.requires (c.unsigned_abs.ensures.value ∙ ap unsigned_abs (to_z-of_z w16 c.args.year c.ranges.year))
