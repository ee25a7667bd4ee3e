use Rattle.csv.specs.Records.{fields_of}
use Rattle.og_file.proofs.Finds.{found}
use Rattle.og_file.proofs.records.read_next.Goals as goal

pub returns : goal.returns
returns c = λ bytes before has.
    found bytes before c.in-Ok.found (fields_of c.read_byte_record.new.row) c.args.reader.now c.read_byte_record.new.self (c.in-Ok.ensures.ready has.0) (c.in-Ok.ensures.reads has.0 has.1) has
