use Rattle.std.proofs.Common.{◌≡◌, ℤ, take}
use Rattle.std.specs.List.{list_all, list_any}
use Rattle.og_base.specs.Calendar.{IsRefDay}
use Rattle.og_base.specs.Ranges.{holds_day}
use Rattle.og_value.specs.Values.{row_at}
use Rattle.og_query.specs.Conditions.{truth}
use Rattle.og_expr.proofs.conditions.+conditions.Given as goal

abbrev pub invariant-all_days-parts : goal.invariant-all_days-parts
invariant-all_days-parts l = (d : ℤ) → IsRefDay d → holds_day l.held d ≡ list_all (truth d (row_at l.columns d)) (take l.part-index l.part-items)

abbrev pub invariant-any_days-parts : goal.invariant-any_days-parts
invariant-any_days-parts l = (d : ℤ) → IsRefDay d → holds_day l.held d ≡ list_any (truth d (row_at l.columns d)) (take l.part-index l.part-items)
