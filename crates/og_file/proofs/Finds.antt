-- What a read of a record does to what was read before it.
use Rattle.std.proofs.Common.{Bor, ◌≡◌, ◌∙◌, ℕ, Bool, true, false, List, Some, Option, inl}
use Rattle.csv.specs.Reading.{ReadRecord, default_config, strip_bom}
use Rattle.csv.specs.declared.parser.State.TheVariants as st
use Rattle.csv.specs.declared.reader.Reader.{Reader}
use Rattle.csv.proofs.ReadFacts.{rows-end, rows-more}
use Rattle.og_file.specs.Records.{Record}
use Rattle.og_file.specs.Readers.{HasRead, HasFound}

-- the bytes that a reader over memory has left
abbrev pub known : Bor (List ℕ) → Option (List ℕ)
known s = Some s.now

pub found : (bytes : List ℕ) (before : List Record) (found : Bool) (fields : Record) (old now : Reader (Bor (List ℕ)))
    → now.first ≡ true → ReadRecord known old now found fields → HasRead bytes before old → HasFound bytes before found fields now
found bytes before true fields old now first read has =
    let more = rows-more known old now fields default_config st.StartRecord (strip_bom bytes) has.3 before has.2 has.4 has.5 read in
    (read.3 ∙ has.0, inl first, read.2 ∙ has.2, more.0, more.1, more.2)
found bytes before false fields old now first read has =
    (old.state, has.3, has.5, rows-end known old now fields default_config has.3 has.2 has.4 read)
