use Rattle.std.proofs.lemmas.Result.{IfOk-weaker}
use Rattle.og_report.proofs.statement.about_of.Goals as goal

pub returns-in-Syntax : goal.returns-in-Syntax
returns-in-Syntax c = rw c.in-Syntax.is (IfOk-weaker c.syntax_about.result _ _ (λ about is. is c.in-Syntax.statement) c.syntax_about.ensures)

pub returns-in-TooDeep : goal.returns-in-TooDeep
returns-in-TooDeep c = rw c.in-TooDeep.is (IfOk-weaker c.deep_about.result _ _ (λ about is. is c.in-TooDeep.statement c.args.scene.now.script.now) c.deep_about.ensures)

pub returns-in-Literal : goal.returns-in-Literal
returns-in-Literal c = rw c.in-Literal.is (IfOk-weaker c.literal_about.result _ _ (λ about is. is c.in-Literal.statement) c.literal_about.ensures)
