-- What words ask for, by what clap answers about them.
use Rattle.std.specs.Prelude.{◌≡◌, ◌≢◌, List, [], Option, Some, None, codes, if◌then◌else◌, option_map}
use Rattle.std.specs.Str.{bytes_eq}
use Rattle.clap.specs.Words.{IsAmong, Row, Text, fault_of, first_of, matches_of}
use Rattle.clap.specs.declared.error.kind.ErrorKind.{ErrorKind}
use Rattle.clap.specs.declared.error.kind.ErrorKind.TheVariants.{DisplayHelp}
use Rattle.og_value.specs.Words.{folded, is_word}
use Rattle.og_sql_words.specs.Shape.{ongq_sql}
use Rattle.og_sql_words.specs.declared.asked.Asked.{Asked}
use Rattle.og_sql_words.specs.declared.asked.Asked.TheVariants as asks
use Rattle.og_sql_words.specs.declared.target.ExplainForm.{ExplainForm}
use Rattle.og_sql_words.specs.declared.target.ExplainForm.TheVariants as explains
use Rattle.og_sql_words.specs.declared.target.LiveForm.{LiveForm}
use Rattle.og_sql_words.specs.declared.target.LiveForm.TheVariants as lives
use Rattle.og_sql_words.specs.declared.target.Spread.{Spread}
use Rattle.og_sql_words.specs.declared.target.Spread.TheVariants as spreads
use Rattle.og_sql_words.specs.declared.target.Target.{Target}

-- ---- the values

-- what EXPLAIN gives, by the value of the flag
abbrev pub explain_of : Option Text → ExplainForm
explain_of None = explains.Ongq
explain_of (Some value) = if bytes_eq value (codes "true") then explains.PostgreSql else explains.Ongq

-- how live results are kept: as views where nothing is said
abbrev pub live_of : Option Text → Option LiveForm
live_of None = Some lives.View
live_of (Some value) = if bytes_eq value (codes "view") then Some lives.View else if bytes_eq value (codes "table") then Some lives.Table else None

-- a column is a word, whose name is in lower case
abbrev pub column_of : Text → Option Text
column_of word = if is_word word then Some (folded word) else None

-- over which servers the tables are spread: by one of the two options at most
abbrev pub spread_of : Option Text → Option Text → Option Spread
spread_of None None = Some spreads.One
spread_of (Some column) None = option_map spreads.Shards (column_of column)
spread_of None (Some column) = option_map spreads.Citus (column_of column)
spread_of (Some column) (Some other) = None

-- the target by the rows of clap's matches
pub record IsTarget (rows : List Row) (target : Target) : Type 0 where
  pub explain : target.explain ≡ explain_of (first_of (codes "explain") rows)
  pub live : live_of (first_of (codes "live") rows) ≡ Some target.live
  pub spread : spread_of (first_of (codes "shard-by") rows) (first_of (codes "citus") rows) ≡ Some target.spread

-- SQL is asked for, with that target
abbrev pub IsSqlFor : List Row → Asked → Type 0
IsSqlFor rows asks.Help = ⊥
IsSqlFor rows (asks.Sql target) = IsTarget rows target

-- ---- the words

-- clap takes the words, and the target is that of its matches; or it answers with help
pub data IsAsked (words : List Text) (asked : Asked) : Type 0 where
  sql : (target : Target) → fault_of ongq_sql words ≡ [] → IsTarget (matches_of ongq_sql words) target → asked ≡ asks.Sql target → IsAsked words asked
  help : IsAmong DisplayHelp (fault_of ongq_sql words) → asked ≡ asks.Help → IsAsked words asked

-- clap refuses the words, or it takes them and there is no target by its matches
pub data IsWrong (words : List Text) : Type 0 where
  refused : (kind : ErrorKind) → kind ≢ DisplayHelp → IsAmong kind (fault_of ongq_sql words) → IsWrong words
  no_target : fault_of ongq_sql words ≡ [] → ((target : Target) → ¬ IsTarget (matches_of ongq_sql words) target) → IsWrong words
