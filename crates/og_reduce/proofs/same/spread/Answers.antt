use Rattle.std.proofs.Common.{Contains, ap, subst, sym, ◌∙◌}
use Rattle.std.proofs.lemmas.Option.{same_Some}
use Rattle.std.proofs.lemmas.Result.{on_ok_weaker}
use Rattle.og_reduce.specs.Sieves.{column}
use Rattle.og_reduce.specs.Sieves.{is_among}
use Rattle.og_reduce.proofs.SieveLemmas.{passes-one}
use Rattle.og_reduce.proofs.same.spread.Goals as goal

pub returns-in-Some : goal.returns-in-Some
returns-in-Some c =
    let tests = c.args.tests.now.items in
    let keys = c.in-Some.keys.now in
    on_ok_weaker c.add_test.result (λ added row same passing.
    added row passing (λ place is.
    ap (λ k. is_among keys (column row k)) (sym (same_Some c.args.to place is)) ∙ ap (is_among keys) (sym same) ∙ passes-one tests row (c.args.from, keys) (subst (λ tests. Contains tests (c.args.from, keys)) c.as_slice-2.ensures.value c.in-Some.ensures) passing))
    c.add_test.ensures
