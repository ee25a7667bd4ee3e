use Rattle.std.proofs.lemmas.Result.{err_from_is_err_and}
use Rattle.og_sql.proofs.pieces.piece_of.Goals as goal

pub returns-in_err-sql-clause-ends : goal.returns-in_err-sql-clause-ends
returns-in_err-sql-clause-ends g c start contents before held =
    let p = err_from_is_err_and c.from_residual-in_err-sql.result c.from_residual-in_err-sql.ensures.1 in
    rw (p.1, p.2) (c.in_err-sql.ensures.ends start contents before held)
