-- Statements whose query, where they are a LIVE, is one of a live result.
use Rattle.std.specs.Prelude.{◌≡◌, ⊤, []}
use Rattle.std.specs.List.{All}
use Rattle.og_value.specs.declared.term.SetOp.TheVariants as op
use Rattle.og_syntax.specs.declared.tree.QueryText.{QueryText}
use Rattle.og_syntax.specs.declared.tree.RestText.{RestText}
use Rattle.og_syntax.specs.declared.tree.Stmt.{Stmt}
use Rattle.og_syntax.specs.declared.tree.Stmt.TheVariants as s

-- a further SELECT is added by UNION, and has no EXISTS
pub record IsLiveRestText (rest : RestText) : Type 0 where
  pub op : rest.op ≡ op.Union
  pub semis : rest.core.semis ≡ []

-- the text of a live result's query
pub record IsLiveText (query : QueryText) : Type 0 where
  pub first : query.first.semis ≡ []
  pub rest : All IsLiveRestText query.rest

-- of a statement
abbrev pub IsLiveStmt : Stmt → Type 0
IsLiveStmt (s.Live name query) = IsLiveText query
IsLiveStmt _ = ⊤
