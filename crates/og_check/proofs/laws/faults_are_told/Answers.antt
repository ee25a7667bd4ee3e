use Rattle.og_check.specs.Statements.{checked}
use Rattle.og_check.proofs.FaultLemmas.{statement_told, told_fault}
use Rattle.og_check.proofs.laws.faults_are_told.Goals as goal

pub returns : goal.returns
returns c known stmt reason e = told_fault (checked known stmt) reason (statement_told known stmt) e
