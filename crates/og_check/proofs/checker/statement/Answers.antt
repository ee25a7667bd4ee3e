use Rattle.std.proofs.Common.{Ok, Err}
use Rattle.std.proofs.lemmas.Result.{err_from_is_err_and}
use Rattle.og_check.proofs.StatementSteps.{drops, prints, valids, keeps, lives}
use Rattle.og_check.proofs.checker.statement.Goals as goal

pub returns-in_ok-known_name-in-Drop : goal.returns-in_ok-known_name-in-Drop
returns-in_ok-known_name-in-Drop g c = drops (g.C.Catalog.known c.args.known.now) c.args.stmt.now c.in-Drop.name (Ok _) c.in-Drop.is c.in_ok-known_name-in-Drop.ensures

pub returns-in_err-known_name-in-Drop : goal.returns-in_err-known_name-in-Drop
returns-in_err-known_name-in-Drop g c =
    let q = err_from_is_err_and c.from_residual.result c.from_residual.ensures.1 in
    rw (q.1, q.2) (λ k. drops (g.C.Catalog.known c.args.known.now) c.args.stmt.now c.in-Drop.name (Err _) c.in-Drop.is (c.in_err-known_name-in-Drop.ensures k))

pub returns-in_ok-known_name-in-PrintName : goal.returns-in_ok-known_name-in-PrintName
returns-in_ok-known_name-in-PrintName g c = prints (g.C.Catalog.known c.args.known.now) c.args.stmt.now c.in-PrintName.name c.in-PrintName.day (Ok _) c.in-PrintName.is c.in_ok-known_name-in-PrintName.ensures

pub returns-in_err-known_name-in-PrintName : goal.returns-in_err-known_name-in-PrintName
returns-in_err-known_name-in-PrintName g c =
    let q = err_from_is_err_and c.from_residual-in_err-known_name-in-PrintName.result c.from_residual-in_err-known_name-in-PrintName.ensures.1 in
    rw (q.1, q.2) (λ k. prints (g.C.Catalog.known c.args.known.now) c.args.stmt.now c.in-PrintName.name c.in-PrintName.day (Err _) c.in-PrintName.is (c.in_err-known_name-in-PrintName.ensures k))

pub returns-in_ok-known_name-in-Valid : goal.returns-in_ok-known_name-in-Valid
returns-in_ok-known_name-in-Valid g c = valids (g.C.Catalog.known c.args.known.now) c.args.stmt.now c.in-Valid.name c.in-Valid.day (Ok _) c.in-Valid.is c.in_ok-known_name-in-Valid.ensures

pub returns-in_err-known_name-in-Valid : goal.returns-in_err-known_name-in-Valid
returns-in_err-known_name-in-Valid g c =
    let q = err_from_is_err_and c.from_residual-in_err-known_name-in-Valid.result c.from_residual-in_err-known_name-in-Valid.ensures.1 in
    rw (q.1, q.2) (λ k. valids (g.C.Catalog.known c.args.known.now) c.args.stmt.now c.in-Valid.name c.in-Valid.day (Err _) c.in-Valid.is (c.in_err-known_name-in-Valid.ensures k))

pub returns-in_ok-name-in-Keep : goal.returns-in_ok-name-in-Keep
returns-in_ok-name-in-Keep g c = keeps (g.C.Catalog.known c.args.known.now) c.args.stmt.now c.in-Keep.name c.in-Keep.query (Ok (c.in_ok-name-in-Keep.name, c.in_ok-name-in-Keep.query)) c.in-Keep.is c.in_ok-name-in-Keep.ensures

pub returns-in_err-name-in-Keep : goal.returns-in_err-name-in-Keep
returns-in_err-name-in-Keep g c =
    let q = err_from_is_err_and c.from_residual-in_err-name-in-Keep.result c.from_residual-in_err-name-in-Keep.ensures.1 in
    rw (q.1, q.2) (λ k. keeps (g.C.Catalog.known c.args.known.now) c.args.stmt.now c.in-Keep.name c.in-Keep.query (Err _) c.in-Keep.is (c.in_err-name-in-Keep.ensures k))

pub returns-in_ok-name-in-Live : goal.returns-in_ok-name-in-Live
returns-in_ok-name-in-Live g c = lives (g.C.Catalog.known c.args.known.now) c.args.stmt.now c.in-Live.name c.in-Live.query (Ok (c.in_ok-name-in-Live.name, c.in_ok-name-in-Live.query)) c.in-Live.is c.in_ok-name-in-Live.ensures

pub returns-in_err-name-in-Live : goal.returns-in_err-name-in-Live
returns-in_err-name-in-Live g c =
    let q = err_from_is_err_and c.from_residual-in_err-name-in-Live.result c.from_residual-in_err-name-in-Live.ensures.1 in
    rw (q.1, q.2) (λ k. lives (g.C.Catalog.known c.args.known.now) c.args.stmt.now c.in-Live.name c.in-Live.query (Err _) c.in-Live.is (c.in_err-name-in-Live.ensures k))
