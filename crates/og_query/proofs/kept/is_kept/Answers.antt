use Rattle.std.proofs.Common.{◌≡◌, ◌&&◌, IfOk, ap, sym, subst, ◌∙◌}
use Rattle.std.specs.List.{list_all}
use Rattle.og_query.specs.Queries.{meets}
use Rattle.og_query.specs.Tables.{rows_of, tables_in}
use Rattle.og_query.proofs.kept.is_kept.Goals as goal

pub returns-then-not-branch : goal.returns-then-not-branch
returns-then-not-branch c = λ d.
    ap (λ b. b && list_all (meets d (rows_of c.args.names.now (tables_in c.args.tables.now)) c.args.row.now) c.args.core.now.semis) (sym c.if-not-branch.true ∙ c.in_ok-holds.ensures d)

pub returns : goal.returns
returns c = λ d.
    subst (λ kept. IfOk c.meets_all.result (λ b. b ≡ kept))
    (ap (list_all (meets d (rows_of c.args.names.now (tables_in c.args.tables.now)) c.args.row.now)) c.as_slice.ensures
    ∙ ap (λ b. b && list_all (meets d (rows_of c.args.names.now (tables_in c.args.tables.now)) c.args.row.now) c.args.core.now.semis) (sym c.if-not-branch.false ∙ c.in_ok-holds.ensures d))
    (c.meets_all.ensures d)
