use Rattle.std.proofs.Common.{◌≡◌, map, take}
use Rattle.csv.specs.Writing.{default_writer, row_body}
use Rattle.og_output.proofs.records.header_text.Given as goal

abbrev pub invariant-columns : goal.invariant-columns
invariant-columns l = l.text.items ≡ row_body default_writer (take l.i (map (λ column. column.name) l.schema))
