use Rattle.std.proofs.Common.{[], subst, sym}
use Rattle.og_session.specs.Ends.{RunAsks, RunEnds}
use Rattle.og_session.specs.Runs.{run_from}
use Rattle.og_session.proofs.carry.run_statements.Goals as goal

pub returns-clause-ends : goal.returns-clause-ends
returns-clause-ends g c start contents told holds =
    let ends = c.run_all-end.ensures.ends start contents told holds in (
      ends.0,
      ends.1,
      subst (λ db. RunEnds (run_from contents 1 [] c.args.stmts) start db (g.F.Files.folder c.run_all-end.new.files) ends.0 c.run_all-end.result) (sym c.into_stored.ensures) ends.2,
    )

pub returns-clause-asked : goal.returns-clause-asked
returns-clause-asked g c start contents told holds =
    subst (λ db. RunAsks (run_from contents 1 [] c.args.stmts) start db (g.F.Files.folder c.run_all-end.new.files) (g.F.Files.calls c.args.files.now) (g.F.Files.calls c.run_all-end.new.files) c.run_all-end.result) (sym c.into_stored.ensures)
    (c.run_all-end.ensures.asked start contents told holds)
