use Rattle.std.proofs.Common.{◌≡◌, ◌++◌, ◌∷◌, ap, ◌∙◌, [], length, rules}
use Rattle.og_output.proofs.FieldLemmas.{record_end}
use Rattle.og_output.proofs.fields.end_record.Goals as goal

pub returns : goal.returns
returns c text fields at is =
    let size : c.len.result ≡ length c.args.out.now.items = search rules in
    let done = c.in_ok-push.ensures.items ∙ ap (λ t. t ++ 10 ∷ []) c.in_ok-push_blank.ensures in
    record_end text fields c.args.out.now.items c.push.new.self.items c.args.start c.len.result at is size done
