-- The command line as clap sees it.
use Rattle.std.specs.Prelude.{Some, codes, true}
use Rattle.clap.specs.Words.{App, Rule, Text, new_app, new_rule, with_rule}
use Rattle.clap.specs.declared.builder.action.ArgAction.TheVariants.{SetTrue}

-- the flag `--explain`
abbrev pub explain : Rule
explain = record (new_rule (codes "explain")) { long = Some (codes "explain"); action = Some SetTrue }

-- an option of that name, which takes one value
abbrev pub option : Text → Rule
option name = record (new_rule name) { long = Some name }

-- a command line without the program's name
abbrev pub plain : App → App
plain a = record a { top = record a.top { no_binary_name = true } }

-- the whole command line; clap adds `--help`
abbrev pub ongq_sql : App
ongq_sql = with_rule (with_rule (with_rule (with_rule (plain (new_app (codes "ongq-sql"))) explain) (option (codes "live"))) (option (codes "shard-by"))) (option (codes "citus"))
