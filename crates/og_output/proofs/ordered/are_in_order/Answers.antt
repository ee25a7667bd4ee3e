use Rattle.std.proofs.Common.{◌++◌, option_copied, refl, ap, subst, sym, rules, ◌∙◌}
use Rattle.std.specs.Option.{option_or}
use Rattle.std.specs.List.Sorted.{IsStrictlySortedBy}
use Rattle.og_output.specs.Ends.{end_of}
use Rattle.og_output.proofs.OrderedLemmas.{copied_or, one_more_in_order}
use Rattle.og_output.proofs.ordered.are_in_order.Goals as goal

pub lists-init : goal.lists-init
unfolding IsStrictlySortedBy
lists-init g c = record { rises = λ _. search rules; last = refl }

pub lists-preserved : goal.lists-preserved
lists-preserved g c =
    let items = c.list-item.result.items in
    one_more_in_order g.F.Ord.cmp c.args.lists.now c.lists.list-index c.list-item.result (option_copied c.lists.end) (option_copied c.or-end.result)
    c.lists-test.true c.list-item.is
    (λ rows last rise rises. subst (λ l. IsStrictlySortedBy g.F.Ord.cmp (rows ++ l)) c.as_slice.ensures.value
    (c.comes_after.ensures (search rules) rows last rise (subst (IsStrictlySortedBy g.F.Ord.cmp) (sym c.as_slice.ensures.value) rises)))
    (ap option_copied c.or-end.ensures ∙ copied_or c.last.result c.lists.end ∙ ap (λ o. option_or o (option_copied c.lists.end)) (c.last.ensures.value ∙ ap end_of c.deref.ensures.value)) c.lists.invariant
