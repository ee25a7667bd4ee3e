-- Why bytes are no script.
use Rattle.std.specs.Prelude.{◌≡◌, ℕ, List, [], length, drop, ⊤}
use Rattle.og_lex.specs.Faults.{IsRefusal, IsRefusalFrom}
use Rattle.og_lex.specs.Grammar.{IsLexed, Reads}
use Rattle.og_lex.specs.declared.token.Token.{Token}
use Rattle.og_parse.specs.declared.refusal.ParseRefusal.{ParseRefusal}
use Rattle.og_parse.specs.declared.refusal.ScriptRefusal.{ScriptRefusal}
use Rattle.og_parse.specs.declared.refusal.ScriptRefusal.TheVariants as r
use Rattle.og_parse.specs.Script.{IsFirstFault, OrNoMemory}

-- the bytes have no tokens, or they have some and the first fault of these, or memory ran out
abbrev pub IsScriptRefusal : List ℕ → ScriptRefusal → Type 0
IsScriptRefusal script (r.Tokens refusal) = IsRefusal script refusal
IsScriptRefusal script (r.Statement refusal) = (tokens : List Token) × IsLexed script tokens × OrNoMemory (IsFirstFault script tokens) refusal
IsScriptRefusal script r.NoMemory = ⊤

-- ---- beside private functions alone

-- the bytes from the place on have no tokens, or they have some and that fault stands
abbrev pub IsRefusedAs : List ℕ → ℕ → ParseRefusal → ScriptRefusal → Type 0
IsRefusedAs script from fault (r.Tokens refusal) = IsRefusalFrom from (drop from script) refusal
IsRefusedAs script from fault (r.Statement refusal) = (refusal ≡ fault) × (rest : List Token) × Reads from (drop from script) rest (length script) []
IsRefusedAs script from fault r.NoMemory = ⊤
