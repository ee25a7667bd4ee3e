-- Each reader of expressions is its rule.
use Rattle.std.proofs.Common.{◌≡◌, inl, inr, ℕ, zero, suc, Bool, true, false, not, ◌&&◌, ◌||◌, List, [], ◌∷◌, length, drop, refl, ap, ◌∙◌}
use Rattle.og_value.specs.declared.value.Value.{Value}
use Rattle.og_value.specs.declared.value.Value.TheVariants as v
use Rattle.og_value.specs.declared.term.Func.TheVariants as func
use Rattle.og_syntax.specs.Clauses.{column_of}
use Rattle.og_syntax.specs.declared.lexeme.Sort.{Sort}
use Rattle.og_syntax.specs.declared.lexeme.Sort.TheVariants as k
use Rattle.og_syntax.specs.declared.lexeme.Lexeme.{Lexeme}
use Rattle.og_syntax.specs.declared.tree.ExprText.TheVariants as e
use Rattle.og_syntax.specs.Lexemes.{is, same_sort, sort_at, sees}
use Rattle.og_syntax.specs.Meanings.{func_of_two, func_of_one}
use Rattle.og_syntax.specs.Reading.{Reads, has}
use Rattle.og_syntax.specs.Rules.{Rule, Tok}
use Rattle.og_syntax.specs.Reader.{column, calls_period, expr_in, expr}
use Rattle.og_syntax.specs.Grammar.{IsLit, IsPeriodLit, IsColumn, IsExprIn, IsExpr}
use Rattle.og_syntax.specs.Follow.{after_expr}
use Rattle.og_syntax.proofs.EverySort.{everywhere, every_sort}
use Rattle.og_syntax.proofs.Exact.{Exact, implies, so, not_true, both_of, same_self, shrinks, exact-never, exact-one, exact-worded, exact-bind, exact-then, exact-after, exact-map, exact-loose, exact-any, exact-choose, exact-choose_if, exact-optional, exact-single, exact-pair}
use Rattle.og_syntax.proofs.LiteralRules.{exact-name, exact-text, exact-quoted, exact-day_lit, exact-point_lit, lit_begins, exact-lit}

-- name, and name . name
pub exact-column : (script : List ℕ) → Exact false (is k.Name) after_expr (column script) (IsColumn script)
unfolding column IsColumn same_sort
exact-column script =
    exact-loose
    (exact-bind (exact-name script) (λ x. exact-map (exact-optional (is k.Dot) (exact-after k.Dot refl (exact-name script)) refl) (column_of x)) refl)
    refl refl

-- a lexeme of the one sort, and then one of the other
pub two_lexemes : (a b : Sort) (ts mid : List Lexeme) → Tok a ts tt mid → same_sort (sort_at mid) b ≡ true → (sees a ts && sees b (drop 1 ts)) ≡ true
unfolding sees
two_lexemes a b ts mid h is_b =
    both_of (sees a ts) (sees b (drop 1 ts))
    (ap (λ ts. same_sort (sort_at ts) a) h.1 ∙ ap (λ s. same_sort s a) h.2 ∙ same_self a)
    (ap (λ ts. same_sort (sort_at (drop 1 ts)) b) h.1 ∙ is_b)

-- a lexeme of the one sort, and then none of the other
pub other_second : (a b : Sort) (ts mid : List Lexeme) (x : Unit {0}) → Tok a ts x mid → same_sort (sort_at mid) b ≡ false → (sees a ts && sees b (drop 1 ts)) ≡ false
unfolding sees
other_second a b ts mid x h isnt = second (sees a ts) (ap (λ ts. same_sort (sort_at (drop 1 ts)) b) h.1 ∙ isnt)
  where
    second : (c : Bool) → same_sort (sort_at (drop 1 ts)) b ≡ false → (c && same_sort (sort_at (drop 1 ts)) b) ≡ false
    second true e = e
    second false e = refl

-- no lexeme of the one sort
pub other_first : {A : Type 0} {f : Sort → Bool} {F : Sort → Bool → Bool} {p : Reads A} {P : Rule A} (a b : Sort)
    → Exact false f F p P → everywhere (λ c. implies (f c) (not (same_sort c a))) ≡ true
    → (ts : List Lexeme) (x : A) (rest : List Lexeme) → P ts x rest → (sees a ts && sees b (drop 1 ts)) ≡ false
unfolding sees
other_first {A} {f} a b E apart ts x rest h =
    ap (λ c. c && same_sort (sort_at (drop 1 ts)) b)
    (not_true _ (so _ _ (every_sort (λ c. implies (f c) (not (same_sort c a))) apart (sort_at ts)) (shrinks E ts x rest h).0))

-- what begins with one of these sorts begins with none of the others
pub apart_from : (f : Sort → Bool) (b : Sort) → everywhere (λ c. implies (f c) (not (same_sort c b))) ≡ true → (ts : List Lexeme) → f (sort_at ts) ≡ true → same_sort (sort_at ts) b ≡ false
apart_from f b apart ts e = not_true _ (so _ _ (every_sort (λ c. implies (f c) (not (same_sort c b))) apart (sort_at ts)) e)

-- a literal is no call of PERIOD
lit_calls_nothing : (script : List ℕ) (strict : Bool) (ts : List Lexeme) (x : Value) (rest : List Lexeme) → IsLit script strict ts x rest → calls_period ts ≡ false
unfolding calls_period IsLit IsPeriodLit same_sort
lit_calls_nothing script strict ts x rest (inl h) = other_first k.Period k.LeftParen (exact-map (exact-one k.Number) (λ t. v.Int t.number)) refl ts x rest h
lit_calls_nothing script strict ts x rest (inr (inl h)) = other_first k.Period k.LeftParen (exact-map (exact-text script) v.Text) refl ts x rest h
lit_calls_nothing script strict ts x rest (inr (inr (inl h))) = other_first k.Period k.LeftParen (exact-day_lit script strict) refl ts x rest h
lit_calls_nothing script strict ts x rest (inr (inr (inr (inl h)))) = other_first k.Period k.LeftParen (exact-point_lit script strict) refl ts x rest h
lit_calls_nothing script strict ts x rest (inr (inr (inr (inr h)))) =
    other_second k.Period k.LeftParen ts h.1 h.0 h.2 (apart_from (is k.Quoted) k.LeftParen refl h.1 (shrinks (exact-quoted script) h.1 h.3.0 h.3.1 h.3.2).0)

-- what an expression begins with
abbrev pub expr_begins : Sort → Bool
expr_begins a = is k.Name a || has func_of_two a || has func_of_one a || lit_begins a

-- expr, nested no deeper than the number
pub exact-expr_in : (script : List ℕ) (strict : Bool) (d : ℕ) → Exact false expr_begins after_expr (expr_in script strict d) (IsExprIn script strict d)
unfolding expr_in IsExprIn calls_period same_sort
exact-expr_in script strict zero = exact-loose exact-never refl refl
exact-expr_in script strict (suc d) =
    exact-loose
    (exact-choose (is k.Name) (exact-column script)
    (exact-choose (has func_of_two) (exact-any (exact-then (exact-worded func_of_two refl) (λ f. exact-map (exact-pair (exact-expr_in script strict d) refl refl) (λ xs. e.Call f (xs.0 ∷ xs.1 ∷ [])))))
    (exact-choose (has func_of_one) (exact-any (exact-then (exact-worded func_of_one refl) (λ f. exact-map (exact-single (exact-expr_in script strict d) refl) (λ x. e.Call f (x ∷ [])))))
    (exact-choose_if calls_period
    (exact-any (exact-after k.Period refl (exact-map (exact-pair (exact-expr_in script strict d) refl refl) (λ xs. e.Call func.Period (xs.0 ∷ xs.1 ∷ [])))))
    (exact-any (exact-map (exact-lit script strict) e.Lit))
    (λ ts x rest h after. two_lexemes k.Period k.LeftParen ts h.1 h.2 (shrinks (exact-pair (exact-expr_in script strict d) refl refl) h.1 h.3.0 h.3.1 h.3.2).0)
    (λ ts x rest h after. lit_calls_nothing script strict ts h.0 h.1 h.2))
    refl refl) refl refl) refl refl)
    refl refl

-- expr
pub exact-expr : (script : List ℕ) (strict : Bool) → Exact false expr_begins after_expr (expr script strict) (IsExpr script strict)
unfolding expr IsExpr
exact-expr script strict = record {
  sound = λ ts. (exact-expr_in script strict (length ts)).sound ts;
  complete = λ ts. (exact-expr_in script strict (length ts)).complete ts;
  lead = λ ts. (exact-expr_in script strict (length ts)).lead ts;
}
