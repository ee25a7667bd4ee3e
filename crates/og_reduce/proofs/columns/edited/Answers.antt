use Rattle.std.proofs.Common.{length, sym, ap, subst, swap, take, ◌∙◌}
use Rattle.std.proofs.lemmas.Option.{IfSome_then}
use Rattle.og_rel.specs.Places.{others_at}
use Rattle.og_reduce.specs.Columns as spec
use Rattle.og_reduce.specs.Columns.{AreNumbers, MayEdit}
use Rattle.og_reduce.proofs.ColumnLemmas.{AreNumbers-more, AreNumbers-others, AreNumbers-swap, AreNumbers-take}
use Rattle.og_reduce.proofs.columns.edited.Goals.{in-Truncate, in-Swap, in-RemoveAt}
use Rattle.og_reduce.proofs.columns.edited.Goals as goal

pub returns-in-Append : goal.returns-in-Append
returns-in-Append c =
    IfSome_then c.and_numbers.result c.and_numbers.ensures
    (λ all e rel are. subst (λ edit. AreNumbers c.args.place all.items (spec.edited edit rel)) (sym c.in-Append.is)
    (AreNumbers-more c.args.place rel c.in-Append.pairs.now c.args.numbers.items all.items e are))

pub returns : goal.returns
returns c =
    let place = c.args.place in
    let numbers = c.args.numbers.items in
    elim c.match-edit.branch [
      | in-Truncate w ↦ λ rel are.
          subst (λ edit. AreNumbers place c.match-edit.numbers.items (spec.edited edit rel)) (sym w.in-Truncate.is)
          (subst (λ l. AreNumbers place l (take w.in-Truncate.len rel)) (sym (ap (λ v. v.items) w.numbers-is ∙ w.truncate.ensures.items)) (AreNumbers-take place numbers rel w.in-Truncate.len are))
      | in-Swap w ↦ λ rel are.
          let i = w.in-Swap.i in
          let j = w.in-Swap.j in
          let within = subst (λ edit. MayEdit edit (length numbers)) w.in-Swap.is c.requires in
          subst (λ edit. AreNumbers place c.match-edit.numbers.items (spec.edited edit rel)) (sym w.in-Swap.is)
          (subst (λ l. AreNumbers place l (swap rel i j)) (sym (ap (λ v. v.items) w.numbers-is ∙ w.swap.ensures.items)) (AreNumbers-swap place numbers rel i j within.0 within.1 are))
      | in-RemoveAt w ↦ λ rel are.
          let at = w.in-RemoveAt.at.now in
          subst (λ edit. AreNumbers place c.match-edit.numbers.items (spec.edited edit rel)) (sym w.in-RemoveAt.is)
          (subst (λ l. AreNumbers place l (others_at at rel)) (sym (ap (λ v. v.items) w.numbers-is ∙ w.remove_at.ensures)) (AreNumbers-others place numbers rel at are))
    ]
