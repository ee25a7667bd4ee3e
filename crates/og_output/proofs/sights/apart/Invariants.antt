use Rattle.std.proofs.Common.{◌≡◌, map}
use Rattle.og_output.proofs.sights.apart.Given as goal

abbrev pub invariant-made : goal.invariant-made
invariant-made l = record {
  lists : l.lists.items ≡ map (λ m. m.rows) l.yielded;
  texts : l.texts.items ≡ map (λ m. m.text) l.yielded;
}
