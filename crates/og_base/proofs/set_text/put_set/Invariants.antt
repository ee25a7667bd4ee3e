use Rattle.std.proofs.Common.{◌≡◌, ◌++◌, ◌∷◌, take}
use Rattle.og_base.specs.SetTexts.{ranges_text}
use Rattle.og_base.proofs.set_text.put_set.Given as goal

abbrev pub invariant-each : goal.invariant-each
invariant-each l = l.out.items ≡ l.fn.out.items ++ 123 ∷ ranges_text (take l.i l.set)
