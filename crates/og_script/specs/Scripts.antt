-- The script of a command: the statements of the source, or why it is none, and those of `at` and `load`.
use Rattle.std.specs.Prelude.{◌≡◌, ◌≤◌, ◌<◌, ℕ, List, length}
use Rattle.og_lex.specs.Faults as lexer
use Rattle.og_lex.specs.Grammar.{IsLexed}
use Rattle.og_lex.specs.declared.refusal.LexRefusal.{LexRefusal}
use Rattle.og_lex.specs.declared.token.Token.{Token}
use Rattle.og_parse.specs.Script as parser
use Rattle.og_parse.specs.declared.refusal.ParseRefusal.{ParseRefusal}
use Rattle.og_syntax.specs.declared.tree.Stmt.{Stmt}
use Rattle.og_words.specs.declared.command.Command.{Command}
use Rattle.og_words.specs.declared.command.Command.TheVariants as commands
use Rattle.og_faults.specs.Stops.{stop_of_lex, stop_of_parse}
use Rattle.og_faults.specs.declared.fault.Fault.{Fault}
use Rattle.og_faults.specs.declared.fault.Fault.TheVariants as faults
use Rattle.og_faults.specs.declared.stop.Stop.TheVariants as stops
use Rattle.og_script.specs.Commands.{at_script, load_script}

-- the most bytes of a source
abbrev pub max_source : ℕ
max_source = 16_777_216

-- the trees that the two grammars give the source
abbrev pub AreTrees : List ℕ → List Stmt → Type 0
AreTrees source stmts = (tokens : List Token) × IsLexed source tokens × parser.IsScript source tokens stmts

-- the source has tokens, and this is the first fault of their statements
abbrev pub IsTreeFault : List ℕ → ParseRefusal → Type 0
IsTreeFault source refusal = (tokens : List Token) × IsLexed source tokens × parser.IsFirstFault source tokens refusal

-- the source is this script
pub record IsScript (source : List ℕ) (stmts : List Stmt) : Type 0 where
  pub short : length source ≤ max_source
  pub trees : AreTrees source stmts

-- the source is no script, and this is its fault
pub data IsScriptFault (source : List ℕ) (fault : Fault) : Type 0 where
  -- it has too many bytes
  too_long : max_source < length source → fault ≡ faults.SourceTooLong → IsScriptFault source fault
  -- it has no tokens
  no_tokens : length source ≤ max_source → (refusal : LexRefusal) → lexer.IsFirstFault source refusal → stop_of_lex refusal ≡ stops.Fault fault → IsScriptFault source fault
  -- its tokens have no tree
  no_tree : length source ≤ max_source → (refusal : ParseRefusal) → IsTreeFault source refusal → stop_of_parse refusal ≡ stops.Fault fault → IsScriptFault source fault

-- the command runs these statements: those of the source, or those of its own script
abbrev pub IsScriptOf : Command → List ℕ → List Stmt → Type 0
IsScriptOf (commands.Run workers) source stmts = IsScript source stmts
IsScriptOf (commands.At file day) source stmts = stmts ≡ at_script file day
IsScriptOf (commands.Load rows workers) source stmts = stmts ≡ load_script rows
