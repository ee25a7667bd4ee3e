use Rattle.og_script.proofs.LiveScripts.{script_live}
use Rattle.og_script.proofs.ScriptLemmas.{statement_stop, tokens_stop}
use Rattle.og_script.proofs.script.tree_of.Goals as goal

pub returns-in-Ok-clause-live : goal.returns-in-Ok-clause-live
returns-in-Ok-clause-live c = script_live c.args.bytes.now c.in-Ok.ensures.tree.0 c.in-Ok.script.stmts c.in-Ok.ensures.tree.2

pub returns-in-Err-Tokens-clause-stopped : goal.returns-in-Err-Tokens-clause-stopped
returns-in-Err-Tokens-clause-stopped c =
    rw c.from.ensures (tokens_stop c.args.bytes.now c.in-Err-Tokens.field-0 c.in-Err-Tokens.refusal c.in-Err-Tokens.field-0-is c.requires c.in-Err-Tokens.ensures.refused)

pub returns-in-Err-Statement-clause-stopped : goal.returns-in-Err-Statement-clause-stopped
returns-in-Err-Statement-clause-stopped c =
    rw c.from-in-Err-Statement.ensures (statement_stop c.args.bytes.now c.in-Err-Statement.field-0 c.in-Err-Statement.refusal c.in-Err-Statement.field-0-is c.requires c.in-Err-Statement.ensures.refused)
