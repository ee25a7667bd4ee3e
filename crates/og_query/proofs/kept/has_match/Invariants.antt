use Rattle.std.proofs.Common.{◌≡◌, ◌++◌, ℤ, false, take}
use Rattle.std.specs.List.{list_any}
use Rattle.og_query.specs.Conditions.{truth}
use Rattle.og_query.proofs.kept.has_match.Given as goal

abbrev pub invariant-others : goal.invariant-others
invariant-others l = (d : ℤ) → list_any (λ other. truth d (l.row ++ other) l.semi.cond) (take l.other-index l.other-items) ≡ false
