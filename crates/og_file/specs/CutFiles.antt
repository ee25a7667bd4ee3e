-- The faults of saved files that are cut between two records.
use Rattle.std.specs.Prelude.{◌+◌, ℕ, zero, suc}
use Rattle.og_file.specs.declared.refusal.FileRefusal.{FileRefusal}
use Rattle.og_file.specs.declared.refusal.FileRefusal.TheVariants as refused

-- of version 1 with that many rows, where that many records are left: the header where it is gone, else the number of rows
abbrev pub cut_fault_one : ℕ → ℕ → FileRefusal
cut_fault_one rows zero = refused.Header
cut_fault_one rows (suc found) = refused.RowCount rows found

-- of version 2, where that many records are left: the header where it is gone, else the first record that is missing
abbrev pub cut_fault_two : ℕ → FileRefusal
cut_fault_two zero = refused.Header
cut_fault_two (suc zero) = refused.Header
cut_fault_two (suc (suc found)) = refused.Cell (found + 3)
