use Rattle.std.proofs.Common.{ℕ, List, IfOk, IfErr, sym, subst}
use Rattle.std.specs.List.{All}
use Rattle.og_script.specs.LiveTexts.{IsLiveStmt}
use Rattle.og_script.specs.Stops.{IsSourceOf, IsStopBefore}
use Rattle.og_script.specs.Scripts.{IsScriptOf}
use Rattle.og_script.proofs.CommandLemmas.{load_live}
use Rattle.og_script.proofs.ScriptLemmas.{at_live}
use Rattle.og_script.proofs.script.script_of.Goals as goal

pub returns-in-Run-clause-script : goal.returns-in-Run-clause-script
returns-in-Run-clause-script g c =
    subst (λ k. (source : List ℕ) → IsSourceOf k (g.S.Source.left c.args.src.now) source → IfOk c.read_script.result (IsScriptOf k source)) (sym c.in-Run.is)
    (λ source told. c.read_script.ensures.script source (told tt))

pub returns-in-Run-clause-stops : goal.returns-in-Run-clause-stops
returns-in-Run-clause-stops g c = subst (λ k. IfErr c.read_script.result (IsStopBefore k)) (sym c.in-Run.is) (c.read_script.ensures.stops c.in-Run.workers)

pub returns-in_ok-at_statements-in-At-clause-live : goal.returns-in_ok-at_statements-in-At-clause-live
returns-in_ok-at_statements-in-At-clause-live g c = subst (All IsLiveStmt) (sym c.in_ok-at_statements-in-At.ensures) (at_live c.in-At.file c.in-At.day)

pub returns-in_ok-load_statements-in-Load-clause-live : goal.returns-in_ok-load_statements-in-Load-clause-live
returns-in_ok-load_statements-in-Load-clause-live g c = subst (All IsLiveStmt) (sym c.in_ok-load_statements-in-Load.ensures) (load_live c.in-Load.rows)
