-- What a reader of records has read. Beside private functions alone.
use Rattle.std.specs.Prelude.{◌≡◌, ◌++◌, ◌∷◌, [], ℕ, Bool, true, false, List, Some}
use denote.Ref.{Bor}
use Rattle.csv.specs.Reading.{default_config, strip_bom, source_of, Ready, Reached}
use Rattle.csv.specs.declared.parser.State.TheVariants as st
use Rattle.csv.specs.declared.reader.Reader.{Reader}
use Rattle.csv.specs.declared.reader.Trim.TheVariants as trim
use Rattle.og_file.specs.Records.{Record, AreAll}

-- the reader has read these records of the bytes, and goes on behind them
abbrev pub HasRead : List ℕ → List Record → Reader (Bor (List ℕ)) → Type 0
HasRead bytes records reader =
    (reader.trim ≡ trim.None) × Ready reader × (reader.config ≡ default_config)
    × (rest : List ℕ) × (source_of (λ s. Some s.now) reader ≡ Some rest)
    × Reached default_config st.StartRecord (strip_bom bytes) records reader.state rest

-- a further read found this record behind those before it, or these are all
abbrev pub HasFound : List ℕ → List Record → Bool → Record → Reader (Bor (List ℕ)) → Type 0
HasFound bytes before true fields reader = HasRead bytes (before ++ fields ∷ []) reader
HasFound bytes before false fields reader = AreAll bytes before
