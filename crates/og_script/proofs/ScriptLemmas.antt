-- Why a source has no statements to run, and that the script of `at` has no LIVE.
use Rattle.std.proofs.Common.{◌≡◌, ◌≤◌, ℕ, ℤ, List, length, refl, subst}
use Rattle.std.specs.List.{All}
use Rattle.std.proofs.lemmas.List.Elements.{All-from_recursion}
use Rattle.og_lex.specs.Faults as lexer
use Rattle.og_lex.specs.Grammar.{IsLexed}
use Rattle.og_lex.specs.declared.refusal.LexRefusal.{LexRefusal}
use Rattle.og_lex.specs.declared.refusal.LexRefusal.TheVariants as lexes
use Rattle.og_lex.specs.declared.token.Token.{Token}
use Rattle.og_parse.specs.Bytes.{IsScriptRefusal}
use Rattle.og_parse.specs.Script as parser
use Rattle.og_parse.specs.declared.refusal.ParseRefusal.{ParseRefusal}
use Rattle.og_parse.specs.declared.refusal.ParseRefusal.TheVariants as parses
use Rattle.og_parse.specs.declared.refusal.ScriptRefusal.{ScriptRefusal}
use Rattle.og_parse.specs.declared.refusal.ScriptRefusal.TheVariants as scripts
use Rattle.og_faults.specs.Stops.{stop_of_lex, stop_of_parse}
use Rattle.og_script.specs.Commands.{at_script}
use Rattle.og_script.specs.Stops.{IsScriptStop}
use Rattle.og_script.specs.LiveTexts.{IsLiveStmt}
use Rattle.og_script.specs.Scripts.{no_tokens, no_tree, max_source}

-- a source without tokens
pub lex_stop : (source : List ℕ) (refusal : LexRefusal) → length source ≤ max_source → lexer.IsRefusal source refusal → IsScriptStop source (stop_of_lex refusal)
lex_stop source (lexes.BadByte n) short fault = no_tokens short (lexes.BadByte n) fault refl
lex_stop source (lexes.OpenText n) short fault = no_tokens short (lexes.OpenText n) fault refl
lex_stop source (lexes.NumberRange n) short fault = no_tokens short (lexes.NumberRange n) fault refl
lex_stop source lexes.NoMemory short fault = tt

-- tokens without a tree
pub parse_stop : (source : List ℕ) (tokens : List Token) (refusal : ParseRefusal) → length source ≤ max_source → IsLexed source tokens
    → parser.OrNoMemory (parser.IsFirstFault source tokens) refusal → IsScriptStop source (stop_of_parse refusal)
parse_stop source tokens (parses.Syntax n) short lexed fault = no_tree short (parses.Syntax n) (tokens, lexed, fault) refl
parse_stop source tokens (parses.TooDeep n) short lexed fault = no_tree short (parses.TooDeep n) (tokens, lexed, fault) refl
parse_stop source tokens (parses.Literal n) short lexed fault = no_tree short (parses.Literal n) (tokens, lexed, fault) refl
parse_stop source tokens parses.NoMemory short lexed fault = tt

-- bytes that are no script
pub tokens_stop : (source : List ℕ) (refusal : ScriptRefusal) (why : LexRefusal) → refusal ≡ scripts.Tokens why → length source ≤ max_source → IsScriptRefusal source refusal → IsScriptStop source (stop_of_lex why)
tokens_stop source refusal why e short h = lex_stop source why short (subst (IsScriptRefusal source) e h)

pub statement_stop : (source : List ℕ) (refusal : ScriptRefusal) (why : ParseRefusal) → refusal ≡ scripts.Statement why → length source ≤ max_source → IsScriptRefusal source refusal → IsScriptStop source (stop_of_parse why)
statement_stop source refusal why e short h = let told = subst (IsScriptRefusal source) e h in parse_stop source told.0 why short told.1 told.2

-- no statement of `at` is a LIVE
pub at_live : (file : List ℕ) (day : ℤ) → All IsLiveStmt (at_script file day)
unfolding at_script
at_live file day = All-from_recursion IsLiveStmt (at_script file day) (tt, (tt, tt))
