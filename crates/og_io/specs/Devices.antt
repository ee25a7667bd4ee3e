-- What the devices are seen as.
use Rattle.std.specs.Prelude.{ℕ, Bool, List, Option, refl}
use Rattle.std.specs.Coded.{Coded, code_by, coded×, coded_ℕ, coded_bool}

-- bytes in memory, given at most `step` a call, and whether they have ended; the call with the number `fail_at`, counted from 1, fails
pub record MemorySource : Type 0 where
  pub left : List ℕ
  pub step : ℕ
  pub fail_at : Option ℕ
  pub calls : ℕ
  pub faults : ℕ
  pub ended : Bool

-- bytes that were put in memory; the call with the number `fail_at`, counted from 1, fails
pub record MemorySink : Type 0 where
  pub written : List ℕ
  pub fail_at : Option ℕ
  pub calls : ℕ
  pub faults : ℕ

-- files in memory, each by its name and its bytes, and the bytes handed out; the call with the number `fail_at`, counted from 1, fails
pub record MemoryFiles : Type 0 where
  pub files : List (List ℕ × List ℕ)
  pub buffer : List ℕ
  pub fail_at : Option ℕ
  pub calls : ℕ
  pub faults : ℕ
  pub absences : ℕ

-- the files of a folder, of which nothing is told but the bytes handed out
pub record FolderDevice : Type 0 where
  pub buffer : List ℕ
  pub faults : ℕ
  pub absences : ℕ
  pub calls : ℕ

-- a reader, how often it failed, and whether it has ended
pub record CountedReader (D : Type 0) : Type 0 where
  pub device : D
  pub faults : ℕ
  pub ended : Bool

-- it is stored as the tuple of its fields
abbrev pub reader_code : {D : Type 0} → Coded D → Coded (CountedReader D)
reader_code {D} code =
    code_by (D × (ℕ × Bool)) (coded× code (coded× coded_ℕ coded_bool)) (λ c. (c.device, (c.faults, c.ended))) (λ p. record { device = p.0; faults = p.1.0; ended = p.1.1 }) (λ _. refl)

-- a writer, and how often it failed
pub record Counted (D : Type 0) : Type 0 where
  pub device : D
  pub faults : ℕ

-- it is stored as the pair of its fields
abbrev pub counted_code : {D : Type 0} → Coded D → Coded (Counted D)
counted_code {D} code =
    code_by (D × ℕ) (coded× code coded_ℕ) (λ c. (c.device, c.faults)) (λ p. record { device = p.0; faults = p.1 }) (λ _. refl)
