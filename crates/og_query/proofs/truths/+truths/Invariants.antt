use Rattle.std.proofs.Common.{◌≡◌, ℤ, true, false, take}
use Rattle.std.specs.List.{list_all, list_any}
use Rattle.og_query.specs.Conditions.{truth}
use Rattle.og_query.proofs.truths.+truths.Given as goal

abbrev pub invariant-all_hold-parts : goal.invariant-all_hold-parts
invariant-all_hold-parts l = (d : ℤ) → list_all (truth d l.row) (take l.part-index l.part-items) ≡ true

abbrev pub invariant-any_holds-parts : goal.invariant-any_holds-parts
invariant-any_holds-parts l = (d : ℤ) → list_any (truth d l.row) (take l.part-index l.part-items) ≡ false
