use Rattle.std.proofs.Common.{◌++◌, ◌∷◌, ◌∙◌, [], ap, append_assoc, get_or, take}
use Rattle.csv.specs.Writing.{default_writer, escaped}
use Rattle.csv.proofs.WriteFacts.{quoted-step}
use Rattle.og_output.proofs.fields.push_quoted.Goals as goal

pub bytes-init : goal.bytes-init
unfolding escaped
bytes-init c = c.in_ok-push.ensures.items

pub bytes-preserved : goal.bytes-preserved
bytes-preserved c =
    let field = c.args.field.now in
    let i = c.bytes.b-index in
    let one = escaped default_writer (get_or field i 0 ∷ []) in
    c.in_ok-push_escaped.ensures ∙ ap (λ t. t ++ one) c.bytes.invariant ∙ append_assoc c.args.out.now.items (34 ∷ escaped default_writer (take i field)) one
    ∙ ap (λ t. c.args.out.now.items ++ t) (quoted-step default_writer 34 field i c.bytes-test.true)
