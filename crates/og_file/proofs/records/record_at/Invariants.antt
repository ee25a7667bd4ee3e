use Rattle.std.proofs.Common.{◌≡◌, List, length}
use Rattle.og_file.specs.Readers.{HasRead}
use Rattle.og_file.specs.Records.{Record}
use Rattle.og_file.proofs.records.record_at.Given as goal

abbrev pub invariant-records : goal.invariant-records
invariant-records l = (before : List Record) × HasRead l.bytes before l.reader × (length before ≡ l.i)
