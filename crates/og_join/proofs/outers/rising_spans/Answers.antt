use Rattle.std.proofs.Common.{sym, ap, length, arith, ◌∙◌}
use Rattle.std.specs.List.{list_any}
use Rattle.std.proofs.lemmas.List.Sorted.{list_any-IsPermutation, length_permutation}
use Rattle.std.proofs.lemmas.Result.{IfOk-weaker}
use Rattle.og_join.specs.Tried.{at_row}
use Rattle.og_join.proofs.outers.rising_spans.Goals as goal

pub returns-clause-rows : goal.returns-clause-rows
returns-clause-rows g c =
    IfOk-weaker c.of.result _ _ (λ v same t. sym (list_any-IsPermutation (at_row t c.args.rel.now) c.as_slice.result.now v same)
    ∙ ap (list_any (at_row t c.args.rel.now)) c.as_slice.ensures.value ∙ c.in_ok-spans.ensures.rows t) c.of.ensures

pub returns-clause-size : goal.returns-clause-size
returns-clause-size g c =
    IfOk-weaker c.of.result _ _ (λ v same. omega (arith, length_permutation c.as_slice.result.now v same, ap length c.as_slice.ensures.value, c.in_ok-spans.ensures.size)) c.of.ensures
