use Rattle.std.proofs.Common.{ap, sym, ◌∙◌}
use Rattle.std.specs.List.{list_any}
use Rattle.std.specs.Ordering.{eq_by_cmp, int_cmp}
use Rattle.og_reduce.proofs.NumberLemmas.{not_between}
use Rattle.og_reduce.proofs.numbers.Numbers.contains.Goals as goal

pub returns-else-is_within : goal.returns-else-is_within
returns-else-is_within c =
    c.if-is_within.false ∙ sym (not_between c.self.inside.least c.self.inside.greatest c.args.n.now c.self.inside.all.keys c.self.invariant (sym c.is_within.ensures ∙ c.if-is_within.false)) ∙ ap (list_any (eq_by_cmp int_cmp c.args.n.now)) c.self.view_is
