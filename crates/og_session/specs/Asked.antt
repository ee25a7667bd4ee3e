-- How often a run asks the files.
use Rattle.std.specs.Prelude.{◌≡◌, ◌⊎◌, ◌+◌, ⊤, ℕ, zero, suc, List, [], ◌∷◌, Result, Ok, Err}
use Rattle.og_io.specs.Counts.{raised}
use Rattle.og_db.specs.Effects.{Effect, on_names, saved, reopened, opened, imported}
use Rattle.og_faults.specs.Refusals.{Refused}
use Rattle.og_faults.specs.declared.stop.Stop.{Stop}

-- an OPEN, an IMPORT and a SAVE ask once
abbrev pub asks : Effect → ℕ
asks (on_names stmt) = 0
asks (saved name file) = 1
asks (reopened name file) = 1
asks (opened name columns rows) = 1
asks (imported name rows) = 1

-- how often statements ask
unfoldable pub asked : List Effect → ℕ
asked [] = 0
asked (e ∷ es) = asks e + asked es

-- a count of calls after more of them
unfoldable pub count_after : ℕ → ℕ → ℕ
count_after old zero = old
count_after old (suc calls) = raised (count_after old calls)

-- the files were asked once for each of these statements on files, and perhaps once more
abbrev pub AreAsked : List Effect → ℕ → ℕ → Type 0
AreAsked effects old now = (now ≡ count_after old (asked effects)) ⊎ (now ≡ raised (count_after old (asked effects)))

-- how often a statement asked that should do this or be refused so: where it was stopped, once at most
abbrev pub StepAsks : Result Effect Refused → Result (Unit {0}) Stop → ℕ → ℕ → Type 0
StepAsks outcome (Err stop) old now = (now ≡ old) ⊎ (now ≡ raised old)
StepAsks (Ok effect) (Ok done) old now = now ≡ count_after old (asks effect)
StepAsks (Err refusal) (Ok done) old now = ⊤

-- how often a statement on files asked: where it was stopped, once at most
abbrev pub AsksOnce : Result (Unit {0}) Stop → ℕ → ℕ → Type 0
AsksOnce (Ok done) old now = now ≡ raised old
AsksOnce (Err stop) old now = (now ≡ old) ⊎ (now ≡ raised old)
