use Rattle.std.proofs.Common.{ap, sym, ◌++◌, ◌∙◌}
use Rattle.std.specs.Fmt.{signed_decimal}
use Rattle.std.specs.Int.{w64}
use Rattle.std.proofs.lemmas.Int.{to_z-of_z}
use Rattle.og_output.proofs.FieldLemmas.{on_ok_same, plain_field, plain_number}
use Rattle.og_output.proofs.rows.push_number.Goals as goal

pub returns : goal.returns
returns c =
    let n = c.args.number in
    on_ok_same _ _ _ c.write_fixed.result (ap (λ t. c.args.out.now.items ++ t) (ap signed_decimal (to_z-of_z w64 n c.ranges.number) ∙ sym (plain_field (signed_decimal n) (plain_number n c.ranges.number)))) c.write_fixed.ensures.written
