use Rattle.std.proofs.Common.{sym, ap₂, ◌∙◌, ◌++◌}
use Rattle.std.proofs.lemmas.List.{take-append-drop}
use Rattle.std.proofs.lemmas.Result.{IfOk-at_ok, IfOk-weaker}
use Rattle.og_par.specs.Phase.{MadeOfEach}
use Rattle.og_par.proofs.PhaseLemmas.{MadeOfEach-joined}
use Rattle.og_par.proofs.phase.+fn-made_of_chunks-here+made_of_chunks.Goals as goal

pub returns : goal.returns
returns g t c =
    let gives = g.P.Piece.gives c.args.piece.now in
    let front = c.split_at.result.0.now in
    let back = c.split_at.result.1.now in
    let before = IfOk-at_ok (λ v. MadeOfEach gives front v.items) c.in_ok-before.was c.join-last.ensures.second in
    let last = IfOk-at_ok (λ v. MadeOfEach gives back v.items) c.in_ok-last.was c.join-last.ensures.first in
    let whole = ap₂ (λ u v. u ++ v) c.split_at.ensures.front c.split_at.ensures.back ∙ take-append-drop _ c.args.items.now in
    IfOk-weaker c.followed.result _ _ (λ v e. MadeOfEach-joined gives front back c.args.items.now c.in_ok-before.field-0.items c.in_ok-last.field-0.items v.items (sym whole) e before last)
    c.followed.ensures
