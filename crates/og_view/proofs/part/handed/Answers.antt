use Rattle.std.proofs.Common.{Contains, IfSome, ap, subst, sym, take, ◌∙◌}
use Rattle.std.specs.List.{All}
use Rattle.std.proofs.lemmas.List.Elements.{All-push, Contains-get_or}
use Rattle.og_view.specs.Parts.{IsHanded, LiesIn}
use Rattle.og_view.proofs.part.handed.Goals.{in-Some+in_ok-push, in_default}
use Rattle.og_view.proofs.part.handed.Goals as goal

pub tests-preserved : goal.tests-preserved
tests-preserved c table there =
    let before = take c.args.place c.args.tables.now in
    let handed = IsHanded c.args.sieve.now before table in
    let test = c.test-item.result in
    let tests = c.as_slice-test-items.result.now in
    let all = c.as_slice-test-items.ensures.value ∙ c.sieve.view_is in
    let member : Contains c.args.sieve.now (c.test.inside.column, c.test.inside.keys.now) =
    subst (Contains c.args.sieve.now) (sym c.test.view_is) (subst (λ tests. Contains tests test) all (subst (Contains tests) (sym c.test-item.is) (Contains-get_or tests c.tests.test-index test c.tests-test.true))) in
    elim c.match-column_in.branch [
      | in-Some+in_ok-push w ↦
          let lies = subst (λ o. IfSome o (LiesIn before table c.test.inside.column)) w.in-Some.is (c.column_in.ensures table there) in
          subst (All handed) (sym (ap (λ tests. tests.items) w.tests-is ∙ w.in_ok-push.ensures.items)) (All-push handed c.tests.tests.items _ (c.tests.invariant table there) (c.test.inside.column, member, lies))
      | in_default w ↦ subst (All handed) (sym (ap (λ tests. tests.items) w.tests-is)) (c.tests.invariant table there)
    ]

pub returns : goal.returns
returns c table there = subst (All (IsHanded c.args.sieve.now (take c.args.place c.args.tables.now) table)) (sym c.new.ensures) (c.tests.invariant table there)
