-- The command line as clap sees it.
use Rattle.std.specs.Prelude.{◌||◌, ◌&&◌, ℕ, Bool, List, [], ◌∷◌, codes, length, nat_le, Some, true, false, nat_eq}
use Rattle.std.specs.List.{list_all, starts_with}
use Rattle.std.specs.Str.{bytes_eq}
use Rattle.clap.specs.Words.{App, Rule, Text, new_app, new_rule, with_rule, with_subcommand}
use Rattle.og_words.specs.Grammar.{is_value}

-- the option `--workers`, which takes one value
abbrev pub workers : Rule
workers = record (new_rule (codes "workers")) { long = Some (codes "workers") }

-- a word that has to stand there
abbrev pub positional : Text → Rule
positional id = record (new_rule id) { required = true }

-- `run`
abbrev pub run : App
run = with_rule (new_app (codes "run")) workers

-- `at`
abbrev pub at : App
at = with_rule (with_rule (new_app (codes "at")) (positional (codes "file"))) (positional (codes "day"))

-- `load`
abbrev pub load : App
load = with_rule (with_rule (new_app (codes "load")) (positional (codes "rows"))) workers

-- a command line without the program's name, and with a subcommand
abbrev pub plain : App → App
plain a = record a { top = record a.top { no_binary_name = true; subcommand_required = true } }

-- the whole command line
abbrev pub ongq : App
ongq = with_subcommand (with_subcommand (with_subcommand (plain (new_app (codes "ongq"))) run.top) at.top) load.top

-- a word that clap is asked about: a value, or the option with or without its value in it
abbrev pub is_asked : List ℕ → Bool
is_asked word = is_value word || (bytes_eq word (codes "--workers") || starts_with nat_eq word (codes "--workers="))

-- the word of a command
abbrev pub is_name : List ℕ → Bool
is_name word = bytes_eq word (codes "run") || (bytes_eq word (codes "at") || bytes_eq word (codes "load"))

-- words that clap is asked about: that of a command, and at most three more
abbrev pub are_asked : List (List ℕ) → Bool
are_asked [] = false
are_asked (first ∷ rest) = is_name first && (nat_le (length rest) 3 && list_all is_asked rest)
