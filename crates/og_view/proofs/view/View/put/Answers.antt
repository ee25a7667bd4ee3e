use Rattle.std.proofs.Common.{◌≡◌, ◌≤◌, ◌-◌, Some, length, ap, subst, sym, ◌∙◌, arith}
use Rattle.std.specs.List.Sorted.{IsPermutation}
use Rattle.og_rel.specs.Places.{ArePlaces, others_at}
use Rattle.og_db.specs.Statements.{or_else}
use Rattle.og_view.specs.Changes.{IsHeldFor, next_of, result_of}
use Rattle.og_view.specs.Views.{IsAnswerOver, to_be}
use Rattle.og_view.proofs.AnswerLemmas.{answer_moved}
use Rattle.og_view.proofs.view.View.put.Goals as goal

pub overflow_sub-came : goal.overflow_sub-came
overflow_sub-came c =
    let held = c.self.inside.result in
    let are = subst (IsHeldFor held) (sym c.take.ensures.value ∙ c.in-Some-Changed.is ∙ ap Some c.in-Some-Changed.field-0-is) c.self.invariant.1 in
    omega (arith, are.1, c.len.ensures, ap length c.rel.ensures)

pub take_out-requires-clause-came : goal.take_out-requires-clause-came
take_out-requires-clause-came c = omega (arith, c.len.ensures, ap length c.rel.ensures)

pub take_out-requires-clause-at : goal.take_out-requires-clause-at
take_out-requires-clause-at c =
    let held = c.self.inside.result in
    let len = c.in-Some-Changed.len in
    let are = subst (IsHeldFor held) (sym c.take.ensures.value ∙ c.in-Some-Changed.is ∙ ap Some c.in-Some-Changed.field-0-is) c.self.invariant.1 in
    let end : len ≡ length held - (c.len.result - len) = omega (arith, are.1, c.len.ensures, ap length c.rel.ensures) in
    subst (λ at. ArePlaces at (length held - (c.len.result - len))) (sym c.as_slice.ensures.value) (subst (ArePlaces c.in-Some-Changed.at.items) end are.0)

pub returns-in-Some-Changed-clause-result : goal.returns-in-Some-Changed-clause-result
returns-in-Some-Changed-clause-result c tables answer =
    let v = c.args.self.now in
    let held = c.self.inside.result in
    let at = c.in-Some-Changed.at.items in
    let next : to_be v ≡ others_at at held = ap to_be (sym c.self.view_is) ∙ ap (λ next. or_else (result_of held next) (next_of held next)) (sym c.take.ensures.value ∙ c.in-Some-Changed.is ∙ ap Some c.in-Some-Changed.field-0-is) in
    subst (λ next. IsAnswerOver tables v.query (result_of c.take_out.new.self next)) (sym c.take.ensures.after)
    (answer_moved tables v.query (others_at at held) c.take_out.new.self (subst (λ at. IsPermutation c.take_out.new.self (others_at at held)) c.as_slice.ensures.value c.take_out.ensures)
    (subst (IsAnswerOver tables v.query) next answer))
