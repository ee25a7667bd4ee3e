use Rattle.std.proofs.Common.{rules, is_lt}
use Rattle.std.proofs.lemmas.Fn.{always_returns_same}
use Rattle.std.proofs.lemmas.List.Sorted.{ranks_by}
use Rattle.og_join.proofs.same_key.sort_by_key.Goals as goal

pub returns-clause-rising : goal.returns-clause-rising
returns-clause-rising g c =
    c.in_ok-sort_by.ensures.sorted (λ a b. is_lt (g.K.Ord.cmp a.key.key b.key.key)) (ranks_by g.met.K.Ord.total (λ s. s.key.key)) (always_returns_same _ _ _ (λ a r f k. search rules))
