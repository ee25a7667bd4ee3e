use Rattle.std.proofs.Common.{rules, ◌≡◌, ◌+◌, ◌++◌, ◌∷◌, [], ◌∙◌, ap, sym, length, take}
use Rattle.csv.specs.Records.{fields_of}
use Rattle.og_file.proofs.BadRecordLemmas.{no_days, other_count}
use Rattle.og_file.proofs.bad_records.bad_saved_row.Goals as goal

pub returns-in_default : goal.returns-in_default
returns-in_default c = λ version none.
    let fields = fields_of c.args.fields.now in
    let columns = c.args.schema.now in (
      ap (λ n. n + 1) c.len.ensures,
      c.len-in_default.ensures,
      λ same. other_count fields (length columns) c.in_default.ensures.none (sym c.len-in_default.ensures ∙ same ∙ ap (λ n. n + 1) c.len.ensures),
    )

pub returns : goal.returns
returns c = λ version none.
    let fields = fields_of c.args.fields.now in
    let columns = c.args.schema.now in
    let cells = take (length columns) fields in
    let last : fields ≡ cells ++ c.extend_from_slice.new.self.items ∷ [] = search rules in
    let row = rw c.in_default-2.is at c.in_ok-column.ensures.none in
    (cells, row.0, last, row.1, no_days version columns fields cells c.extend_from_slice.new.self.items row.0 none last row.1)
