use Rattle.std.proofs.Common.{◌≡◌, ◌∷◌, [], length, rules}
use Rattle.std.proofs.lemmas.Result.{on_ok_weaker}
use Rattle.og_output.proofs.FieldLemmas.{two_fields}
use Rattle.og_output.proofs.records.push_two.Goals as goal

pub returns : goal.returns
returns c =
    let old = c.args.out.now.items in
    let first = c.args.first.now in
    let second = c.args.second.now in
    let size : c.len-start.result ≡ length old = search rules in
    let both = two_fields old first second c.push_field.new.out.items c.push_field-2.new.out.items c.in_ok-push_field.ensures c.in_ok-push_field-2.ensures in
    on_ok_weaker c.end_record.result (λ ended. ended old (first ∷ second ∷ []) size both) c.end_record.ensures
