-- Steps of the loops and calls that find the values of expressions.
use Rattle.std.proofs.Common.{◌≡◌, ◌++◌, ◌+◌, ◌<◌, ℕ, ℤ, true, List, [], ◌∷◌, length, get_or, take, map, Some, slice_get, sym, ap, ◌∙◌}
use Rattle.std.specs.List.{list_all}
use Rattle.std.proofs.lemmas.List.{append_assoc, map_more, take_more}
use Rattle.std.proofs.lemmas.Option.{get_or_from_slice_get, slice_get_within}
use Rattle.og_value.specs.declared.term.Func.{Func}
use Rattle.og_value.specs.declared.value.FixedValue.{FixedValue}
use Rattle.og_query.specs.Expressions.{call_of, meaning}
use Rattle.og_query.specs.Steady.{is_steady_expr}
use Rattle.og_query.specs.declared.expression.Expr.{Expr}
use Rattle.og_query.specs.declared.expression.Expr.TheVariants.{Call}
use Rattle.og_query.proofs.Equations.{is_steady-Call, meaning-Call}

-- the arguments of a steady call are steady
pub steady_arguments : (expr : Expr) (func : Func) (args : List Expr) → expr ≡ Call func args → is_steady_expr expr ≡ true → list_all is_steady_expr args ≡ true
steady_arguments expr func args is steady = sym (is_steady-Call func args) ∙ ap is_steady_expr (sym is) ∙ steady

-- a call of the values of its arguments is its meaning
pub call_of_values : (d : ℤ) (row : List FixedValue) (expr : Expr) (func : Func) (args : List Expr) (values : List FixedValue)
    → expr ≡ Call func args → values ≡ map (meaning d row) args → call_of func values ≡ meaning d row expr
call_of_values d row expr func args values is e =
    ap (call_of func) e ∙ sym (meaning-Call d row func args) ∙ ap (meaning d row) (sym is)

-- the step of a loop that appends the values of a row
pub append_found : {A : Type 0} (xs : List A) (i : ℕ) (x y : A) (front old new : List A) → slice_get xs i ≡ Some x → y ≡ x
    → old ≡ front ++ take i xs → new ≡ old ++ y ∷ [] → new ≡ front ++ take (i + 1) xs
append_found xs i x y front old new e same before step =
    step
    ∙ (λ j. before j ++ (same ∙ sym (get_or_from_slice_get xs i x x e)) j ∷ [])
    ∙ append_assoc front (take i xs) (get_or xs i x ∷ [])
    ∙ ap (λ ys. front ++ ys) (sym (take_more xs i x (slice_get_within xs i x e)))

-- the step of a loop that maps a list
pub mapped_more : {A B : Type 0} (f : A → B) (xs : List A) (i : ℕ) (x : A) (y : B) (old new : List B) → i < length xs → x ≡ get_or xs i x → y ≡ f x
    → old ≡ map f (take i xs) → new ≡ old ++ y ∷ [] → new ≡ map f (take (i + 1) xs)
mapped_more f xs i x y old new l is mapped before step =
    step ∙ (λ j. before j ++ (mapped ∙ ap f is) j ∷ []) ∙ sym (map_more f xs i x l)
