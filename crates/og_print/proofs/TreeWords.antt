-- The words of expressions and conditions, by those of their parts.
use Rattle.std.proofs.Common.{◌≡◌, ℕ, List, [], ◌∷◌, ◌++◌, map, Option, ap, ◌∙◌, sym, refl}
use Rattle.og_value.specs.declared.value.Value.{Value}
use Rattle.og_value.specs.declared.term.Func.{Func}
use Rattle.og_syntax.specs.declared.lexeme.Sort.TheVariants as k
use Rattle.og_syntax.specs.declared.tree.ExprText.{ExprText, fold-roll-ExprText}
use Rattle.og_syntax.specs.declared.tree.ExprText.TheVariants.{Column, Lit, Call, rolls-Column, rolls-Lit, rolls-Call}
use Rattle.og_syntax.specs.declared.tree.ExprText.TheOpen as open_
use Rattle.og_value.specs.declared.term.Cmp.{Cmp}
use Rattle.og_value.specs.declared.term.Pred.{Pred}
use Rattle.og_syntax.specs.declared.lexeme.Sort.{Sort}
use Rattle.og_syntax.specs.declared.tree.CondText.{CondText, fold-roll-CondText}
use Rattle.og_syntax.specs.declared.tree.CondText.TheVariants.{And, Or, Not, Compare, Relate, Empty, Contains, rolls-And, rolls-Or, rolls-Not, rolls-Compare, rolls-Relate, rolls-Empty, rolls-Contains}
use Rattle.og_syntax.specs.declared.tree.CondText.TheOpen as open_cond
use Rattle.og_print.specs.declared.conditions.Place.{Place}
use Rattle.og_print.specs.declared.conditions.Place.TheVariants as place
use Rattle.og_print.specs.Conditions.{cmp_sort, pred_sort, beside_and, beside_any, relation_words, empty_words, contains_words, parts_step, cond_step, cond_words, parts_words}
use Rattle.og_print.specs.Words.{Word, Plain, each, behind, listed, enclosed, enclosed_if}
use Rattle.og_print.specs.Expressions.{column_words, lit_words, func_sort, expr_step, expr_words}

-- further parts
each-mapped : {A : Type 0} (f : A → List Word) (xs : List A) → each (behind k.Comma (λ ws. ws)) (map f xs) ≡ each (behind k.Comma f) xs
each-mapped f [] = refl
each-mapped f (x ∷ xs) = ap (λ ws. (Plain k.Comma ∷ f x) ++ ws) (each-mapped f xs)

-- parts with commas between them
listed-mapped : {A : Type 0} (f : A → List Word) (xs : List A) → listed (λ ws. ws) (map f xs) ≡ listed f xs
listed-mapped f [] = refl
listed-mapped f (x ∷ xs) = ap (λ ws. f x ++ ws) (each-mapped f xs)

-- a column
pub expr_words-Column : (table : Option (List ℕ)) (name : List ℕ) → expr_words (Column table name) ≡ column_words table name
unfolding expr_words
expr_words-Column table name = ap expr_words (sym (rolls-Column table name)) ∙ (λ i. fold-roll-ExprText (List Word) expr_step (open_.Column table name) i)

-- a literal
pub expr_words-Lit : (value : Value) → expr_words (Lit value) ≡ lit_words value
unfolding expr_words
expr_words-Lit value = ap expr_words (sym (rolls-Lit value)) ∙ (λ i. fold-roll-ExprText (List Word) expr_step (open_.Lit value) i)

-- a call
pub expr_words-Call : (f : Func) (args : List ExprText) → expr_words (Call f args) ≡ Plain (func_sort f) ∷ enclosed (listed expr_words args)
unfolding expr_words
expr_words-Call f args =
    ap expr_words (sym (rolls-Call f args)) ∙ (λ i. fold-roll-ExprText (List Word) expr_step (open_.Call f args) i)
    ∙ ap (λ ws. Plain (func_sort f) ∷ enclosed ws) (listed-mapped expr_words args)

-- expressions, by their variants
pub ruleset expressions = (expr_words-Column, expr_words-Lit, expr_words-Call)

-- further conditions at a place
each-placed : (sort : Sort) (at : Place) (xs : List CondText) → each (behind sort (λ p. p at)) (map cond_words xs) ≡ each (behind sort (λ x. cond_words x at)) xs
each-placed sort at [] = refl
each-placed sort at (x ∷ xs) = ap (λ ws. (Plain sort ∷ cond_words x at) ++ ws) (each-placed sort at xs)

-- conditions at a place
parts-placed : (sort : Sort) (at : Place) (xs : List CondText) → parts_step sort at (map cond_words xs) ≡ parts_words sort at xs
parts-placed sort at [] = refl
parts-placed sort at (x ∷ xs) = ap (λ ws. cond_words x at ++ ws) (each-placed sort at xs)

-- conditions joined by AND
pub cond_words-And : (parts : List CondText) (at : Place) → cond_words (And parts) at ≡ enclosed_if (beside_and at) (parts_words k.And place.BesideAnd parts)
unfolding cond_words
cond_words-And parts at =
    ap (λ x. cond_words x at) (sym (rolls-And parts)) ∙ (λ i. fold-roll-CondText (Place → List Word) cond_step (open_cond.And parts) i at)
    ∙ ap (enclosed_if (beside_and at)) (parts-placed k.And place.BesideAnd parts)

-- conditions joined by OR
pub cond_words-Or : (parts : List CondText) (at : Place) → cond_words (Or parts) at ≡ enclosed_if (beside_any at) (parts_words k.Or place.BesideOr parts)
unfolding cond_words
cond_words-Or parts at =
    ap (λ x. cond_words x at) (sym (rolls-Or parts)) ∙ (λ i. fold-roll-CondText (Place → List Word) cond_step (open_cond.Or parts) i at)
    ∙ ap (enclosed_if (beside_any at)) (parts-placed k.Or place.BesideOr parts)

-- NOT
pub cond_words-Not : (part : CondText) (at : Place) → cond_words (Not part) at ≡ Plain k.Not ∷ cond_words part place.BesideAnd
unfolding cond_words
cond_words-Not part at = ap (λ x. cond_words x at) (sym (rolls-Not part)) ∙ (λ i. fold-roll-CondText (Place → List Word) cond_step (open_cond.Not part) i at)

-- a comparison
pub cond_words-Compare : (op : Cmp) (left right : ExprText) (at : Place) → cond_words (Compare op left right) at ≡ relation_words left (cmp_sort op) right
unfolding cond_words
cond_words-Compare op left right at =
    ap (λ x. cond_words x at) (sym (rolls-Compare op left right)) ∙ (λ i. fold-roll-CondText (Place → List Word) cond_step (open_cond.Compare op left right) i at)

-- a predicate
pub cond_words-Relate : (pred : Pred) (left right : ExprText) (at : Place) → cond_words (Relate pred left right) at ≡ relation_words left (pred_sort pred) right
unfolding cond_words
cond_words-Relate pred left right at =
    ap (λ x. cond_words x at) (sym (rolls-Relate pred left right)) ∙ (λ i. fold-roll-CondText (Place → List Word) cond_step (open_cond.Relate pred left right) i at)

-- EMPTY
pub cond_words-Empty : (period : ExprText) (at : Place) → cond_words (Empty period) at ≡ empty_words period
unfolding cond_words
cond_words-Empty period at = ap (λ x. cond_words x at) (sym (rolls-Empty period)) ∙ (λ i. fold-roll-CondText (Place → List Word) cond_step (open_cond.Empty period) i at)

-- CONTAINS
pub cond_words-Contains : (period day : ExprText) (at : Place) → cond_words (Contains period day) at ≡ contains_words period day
unfolding cond_words
cond_words-Contains period day at =
    ap (λ x. cond_words x at) (sym (rolls-Contains period day)) ∙ (λ i. fold-roll-CondText (Place → List Word) cond_step (open_cond.Contains period day) i at)

-- conditions, by their variants
pub ruleset conditions = (cond_words-And, cond_words-Or, cond_words-Not, cond_words-Compare, cond_words-Relate, cond_words-Empty, cond_words-Contains)
