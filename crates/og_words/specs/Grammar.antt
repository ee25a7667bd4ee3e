-- The grammar of words: which words are a command, and which command they are.
use Rattle.std.specs.Prelude.{◌≡◌, ◌⊎◌, ◌≤◌, ◌==◌, ◌++◌, ℕ, ℤ, Bool, not, false, true, List, [], ◌∷◌, codes, length}
use Rattle.std.specs.Str.{IsUtf8}
use Rattle.std.specs.Str.Parse.{IsNumeral, digits_value}
use Rattle.og_base.specs.Calendar.{IsRefDayText}
use Rattle.og_words.specs.declared.command.Command.{Command}
use Rattle.og_words.specs.declared.command.Command.TheVariants as commands

-- a word that is not empty and has no `-` at its front
abbrev pub is_value : List ℕ → Bool
is_value [] = false
is_value (b ∷ _) = not (b == 45)

-- one digit or more, so many at most, and the number from 1 to the highest that they write
pub record IsNumber (most highest : ℕ) (word : List ℕ) (n : ℕ) : Type 0 where
  pub digits : IsNumeral 10 word
  pub few : length word ≤ most
  pub number : n ≡ digits_value 10 word
  pub positive : 1 ≤ n
  pub bounded : n ≤ highest

-- V: workers, from 1 to 64
abbrev pub IsWorkers : List ℕ → ℕ → Type 0
IsWorkers = IsNumber 2 64

-- N: rows, from 1 to 200000
abbrev pub IsRows : List ℕ → ℕ → Type 0
IsRows = IsNumber 6 200_000

-- the option with its value: `--workers V` or `--workers=V`
abbrev pub IsGiven : List (List ℕ) → List ℕ → Type 0
IsGiven words v = (words ≡ codes "--workers" ∷ v ∷ []) ⊎ (words ≡ (codes "--workers=" ++ v) ∷ [])

-- the option with its workers, or nothing and 1 worker
pub data IsOption (words : List (List ℕ)) (workers : ℕ) : Type 0 where
  given : (v : List ℕ) → IsGiven words v → IsWorkers v workers → IsOption words workers
  absent : words ≡ [] → workers ≡ 1 → IsOption words workers

-- FILE: a word in UTF-8 that is not empty and has no `-` at its front
pub record IsFile (word : List ℕ) : Type 0 where
  pub value : is_value word ≡ true
  pub utf8 : IsUtf8 word

-- DAY: the day text of a reference day, without a `-` at its front, and the number of the day
pub record IsDay (word : List ℕ) (day : ℤ) : Type 0 where
  pub value : is_value word ≡ true
  pub text : IsRefDayText word day

-- the words, and the command that they are
pub data IsCommand (words : List (List ℕ)) (command : Command) : Type 0 where
  -- `run`, followed by the option or by nothing
  run : (option : List (List ℕ)) (workers : ℕ) → words ≡ codes "run" ∷ option → IsOption option workers → command ≡ commands.Run workers → IsCommand words command
  -- `at FILE DAY`
  at : (file text : List ℕ) (day : ℤ) → words ≡ codes "at" ∷ file ∷ text ∷ [] → IsFile file → IsDay text day → command ≡ commands.At file day → IsCommand words command
  -- `load N`, with the option or nothing directly before N
  load_before : (option : List (List ℕ)) (n : List ℕ) (rows workers : ℕ) → words ≡ codes "load" ∷ option ++ n ∷ [] → IsOption option workers → IsRows n rows → command ≡ commands.Load rows workers → IsCommand words command
  -- `load N`, with the option or nothing after N
  load_after : (option : List (List ℕ)) (n : List ℕ) (rows workers : ℕ) → words ≡ codes "load" ∷ n ∷ option → IsRows n rows → IsOption option workers → command ≡ commands.Load rows workers → IsCommand words command
