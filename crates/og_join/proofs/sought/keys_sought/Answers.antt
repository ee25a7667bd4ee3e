use Rattle.std.proofs.Common.{get_or, sym, ◌∙◌}
use Rattle.std.specs.Ordering.{eq_by_cmp}
use Rattle.std.proofs.lemmas.List.Sorted.{list_any-IsPermutation}
use Rattle.og_rel.specs.Relations.{present}
use Rattle.og_join.proofs.sought.keys_sought.Goals as goal

pub returns : goal.returns
returns g c d r k x within few =
    sym (list_any-IsPermutation (λ j. eq_by_cmp g.Q.Key.Ord.cmp j (g.Q.Keys.left_of c.args.keys.now (get_or (present g.R.Instant.meaning c.args.left.now d) k x))) _ _ c.in_ok-sort.ensures.permutation)
    ∙ c.in_ok-found.ensures d r k x within
