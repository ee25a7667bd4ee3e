use Rattle.std.proofs.Common.{Some, ◌++◌, [], ◌∷◌, ap, sym, ◌∙◌}
use Rattle.std.proofs.lemmas.Result.{err_from_is_err_and}
use Rattle.og_syntax.specs.declared.tree.ExprText.TheVariants as tree
use Rattle.og_syntax.proofs.Sequences.{no_first, no_lexeme}
use Rattle.og_syntax.proofs.expressions.+expressions.Goals as goal

pub call_of_two-returns : goal.call_of_two-returns
call_of_two-returns t c =
    rw (c.in_ok-rest.ensures, c.in_ok-left.ensures, c.in_ok-rest-2.ensures, c.in_ok-right.ensures, c.in_ok-rest-3.ensures)
    (λ i. Some (tree.Call c.args.func (sym (c.in_ok-push.ensures.ok ∙ ap (λ xs. xs ++ c.in_ok-right.right ∷ []) c.in_ok-args.ensures) i), c.in_ok-rest-3.rest.now))

pub call_of_two-returns-in_err-rest : goal.call_of_two-returns-in_err-rest
call_of_two-returns-in_err-rest t c =
    let q = err_from_is_err_and c.from_residual.result c.from_residual.ensures.1 in
    rw (q.1, q.2) (no_lexeme _ _ _ _ c.in_err-rest.ensures)

pub call_of_two-returns-in_err-left : goal.call_of_two-returns-in_err-left
call_of_two-returns-in_err-left t c =
    let q = err_from_is_err_and c.from_residual-in_err-left.result c.from_residual-in_err-left.ensures.1 in
    rw (q.1, q.2, c.in_ok-rest.ensures) (no_first _ _ _ _ c.in_err-left.ensures)

pub call_of_two-returns-in_err-rest-2 : goal.call_of_two-returns-in_err-rest-2
call_of_two-returns-in_err-rest-2 t c =
    let q = err_from_is_err_and c.from_residual-in_err-rest-2.result c.from_residual-in_err-rest-2.ensures.1 in
    rw (q.1, q.2, c.in_ok-rest.ensures, c.in_ok-left.ensures) (no_lexeme _ _ _ _ c.in_err-rest-2.ensures)

pub call_of_two-returns-in_err-right : goal.call_of_two-returns-in_err-right
call_of_two-returns-in_err-right t c =
    let q = err_from_is_err_and c.from_residual-in_err-right.result c.from_residual-in_err-right.ensures.1 in
    rw (q.1, q.2, c.in_ok-rest.ensures, c.in_ok-left.ensures, c.in_ok-rest-2.ensures) (no_first _ _ _ _ c.in_err-right.ensures)

pub call_of_two-returns-in_err-rest-3 : goal.call_of_two-returns-in_err-rest-3
call_of_two-returns-in_err-rest-3 t c =
    let q = err_from_is_err_and c.from_residual-in_err-rest-3.result c.from_residual-in_err-rest-3.ensures.1 in
    rw (q.1, q.2, c.in_ok-rest.ensures, c.in_ok-left.ensures, c.in_ok-rest-2.ensures, c.in_ok-right.ensures) (no_lexeme _ _ _ _ c.in_err-rest-3.ensures)

pub call_of_one-returns : goal.call_of_one-returns
call_of_one-returns t c =
    rw (c.in_ok-rest.ensures, c.in_ok-only.ensures, c.in_ok-rest-2.ensures) (λ i. Some (tree.Call c.args.func (sym c.in_ok-args.ensures i), c.in_ok-rest-2.rest.now))
