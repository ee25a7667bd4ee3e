use Rattle.std.proofs.Common.{◌≡◌, ◌++◌, map, take}
use Rattle.csv.specs.Writing.{default_writer, row_body}
use Rattle.og_value.specs.Cells.{fixed_text}
use Rattle.og_value.specs.Values.{row_at}
use Rattle.og_output.proofs.rows.push_row.Given as goal

abbrev pub invariant-values : goal.invariant-values
invariant-values l = l.out.items ≡ l.fn.out.items ++ row_body default_writer (take l.i (map fixed_text (row_at l.row l.day)))
