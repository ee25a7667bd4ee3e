use Rattle.std.proofs.Common.{◌≡◌, ◌-◌, ◌++◌, ◌∙◌, drop, length, take, ap, subst, sym, arith}
use Rattle.std.specs.List.Sorted.{IsPermutation}
use Rattle.std.proofs.lemmas.List.{append_assoc, length-append, take-append-drop}
use Rattle.std.proofs.lemmas.List.Sorted.{IsPermutation-append_comm, IsPermutation-append_right, IsPermutation-trans}
use Rattle.og_rel.specs.Places.{ArePlaces, others_at}
use Rattle.og_rel.proofs.PlaceLemmas.{others-append}
use Rattle.og_db.proofs.delta.apply.Goals as goal

pub take_out-requires-clause-came : goal.take_out-requires-clause-came
take_out-requires-clause-came c =
    let old = c.args.rows.now in
    let more = c.append.new.self in
    let n = c.min.result in
    omega (
      arith,
      c.len-came.ensures,
      ap length c.in_ok-append-2.ensures.appended,
      length-append old c.rotate_left.new.self,
      ap length c.rotate_left.ensures,
      length-append (drop n more) (take n more),
      length-append (take n more) (drop n more),
      ap length (take-append-drop n more),
    )

pub take_out-requires-clause-at : goal.take_out-requires-clause-at
take_out-requires-clause-at c =
    let old = c.args.rows.now in
    let more = c.append.new.self in
    let n = c.min.result in
    let long : length old ≡ length c.append-2.new.self - c.len-came.result = omega (
      arith,
      c.len-came.ensures,
      ap length c.in_ok-append-2.ensures.appended,
      length-append old c.rotate_left.new.self,
      ap length c.rotate_left.ensures,
      length-append (drop n more) (take n more),
      length-append (take n more) (drop n more),
      ap length (take-append-drop n more),
    ) in
    subst (λ l. ArePlaces l (length c.append-2.new.self - c.len-came.result)) (sym c.as_slice.ensures.value) (subst (ArePlaces c.args.delta.at.items) long c.requires)

pub returns-clause-applied : goal.returns-clause-applied
returns-clause-applied c =
    let at = c.args.delta.at.items in
    let old = c.args.rows.now in
    let left = c.args.delta.left in
    let added = c.args.delta.added in
    let more = c.append.new.self in
    let n = c.min.result in
    let others = others_at at old in
    let moved : IsPermutation (others ++ c.rotate_left.new.self) (others ++ more) = IsPermutation-append_right others c.rotate_left.new.self more
    (subst (λ l. IsPermutation l more) (sym c.rotate_left.ensures) (subst (IsPermutation (drop n more ++ take n more)) (take-append-drop n more) (IsPermutation-append_comm (drop n more) (take n more)))) in
    let here : others_at c.as_slice.result.now c.append-2.new.self ≡ others ++ c.rotate_left.new.self =
    (λ i. others_at (c.as_slice.ensures.value i) (c.in_ok-append-2.ensures.appended i)) ∙ others-append at old c.rotate_left.new.self c.requires in
    let all : others ++ more ≡ (others ++ left) ++ added = ap (λ l. others ++ l) c.in_ok-append.ensures.appended ∙ sym (append_assoc others left added) in
    IsPermutation-trans c.take_out.new.self (others ++ c.rotate_left.new.self) ((others ++ left) ++ added) (subst (IsPermutation c.take_out.new.self) here c.take_out.ensures) (subst (IsPermutation (others ++ c.rotate_left.new.self)) all moved)
