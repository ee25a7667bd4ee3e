use Rattle.std.proofs.Common.{◌++◌, ◌∷◌, ◌∙◌, [], ap, append_assoc, refl, sym}
use Rattle.csv.specs.Writing.{default_writer}
use Rattle.csv.proofs.WriteFacts.{escaped-double, escaped-other}
use Rattle.og_output.proofs.fields.push_escaped.Goals as goal
use Rattle.og_output.proofs.fields.push_escaped.Goals.{then-b-eq34+in_ok-push, else-b-eq34}

pub returns : goal.returns
returns c =
    let b = c.args.b in
    let old = c.args.out.now.items in
    elim c.if-b-eq34.branch [
      | then-b-eq34+in_ok-push w ↦ c.in_ok-push-2.ensures.items ∙ ap (λ v. v.items ++ b ∷ []) w.out-is ∙ ap (λ t. t ++ b ∷ []) w.in_ok-push.ensures.items
          ∙ append_assoc old (34 ∷ []) (b ∷ []) ∙ ap (λ t. old ++ t) (ap (λ x. x ∷ b ∷ []) (sym w.if-b-eq34.true) ∙ sym (escaped-double default_writer b w.if-b-eq34.true refl))
      | else-b-eq34 w ↦ c.in_ok-push-2.ensures.items ∙ ap (λ v. v.items ++ b ∷ []) w.out-is ∙ ap (λ t. old ++ t) (sym (escaped-other default_writer b w.if-b-eq34.false))
    ]
