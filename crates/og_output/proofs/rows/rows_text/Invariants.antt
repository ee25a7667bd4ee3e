use Rattle.std.proofs.Common.{◌≡◌, map, take}
use Rattle.og_value.specs.Cells.{fixed_text}
use Rattle.og_output.specs.Records.{records}
use Rattle.og_output.proofs.rows.rows_text.Given as goal

abbrev pub invariant-rows : goal.invariant-rows
invariant-rows l = l.text.items ≡ records (map (map fixed_text) (take l.row-index l.rows))
