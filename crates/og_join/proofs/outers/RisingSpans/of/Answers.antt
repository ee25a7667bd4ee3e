use Rattle.std.proofs.Common.{◌++◌, ◌∙◌, ap, subst, rules, IsPermutation}
use Rattle.std.proofs.lemmas.Fn.{always_returns_same}
use Rattle.og_join.proofs.SpanLemmas.{Rises-sorted}
use Rattle.og_join.proofs.outers.RisingSpans.of.Goals as goal

pub invariant_of-result : goal.invariant_of-result
invariant_of-result c = Rises-sorted (λ o. o.lo) _ (c.in_ok-sort_by_key.ensures.sorted (λ o. o.lo) (always_returns_same _ _ _ (λ a r f k. search rules)))

pub returns : goal.returns
returns c =
    subst (λ xs. IsPermutation xs c.sort_by_key.new.self.items) (c.in_ok-extend_from_slice.ensures.items ∙ ap (λ t. t ++ c.args.spans.now) c.in_ok-rising.ensures.items) c.in_ok-sort_by_key.ensures.permutation
