-- Each reader of conditions is its rule.
use Rattle.std.proofs.Common.{ℕ, zero, suc, Bool, false, ◌||◌, List, length, refl}
use Rattle.og_syntax.specs.declared.lexeme.Sort.{Sort}
use Rattle.og_syntax.specs.declared.lexeme.Sort.TheVariants as k
use Rattle.og_syntax.specs.declared.tree.ExprText.{ExprText}
use Rattle.og_syntax.specs.declared.tree.CondText.{CondText}
use Rattle.og_syntax.specs.declared.tree.CondText.TheVariants as c
use Rattle.og_syntax.specs.Lexemes.{is, same_sort}
use Rattle.og_syntax.specs.Meanings.{comparison_of, predicate_of}
use Rattle.og_syntax.specs.Reading.{Reads, has}
use Rattle.og_syntax.specs.Rules.{Rule}
use Rattle.og_syntax.specs.Reader.{conj_of, cond_of, compare, relate, relation, atom_of, neg_in, cond}
use Rattle.og_syntax.specs.Clauses.{all_of, any_of}
use Rattle.og_syntax.specs.Grammar.{IsConjOf, IsCondOf, IsCompare, IsRelate, IsRelation, IsAtomOf, IsNegIn, IsCond}
use Rattle.og_syntax.specs.Follow.{after_expr, after_conj, after_cond}
use Rattle.og_syntax.proofs.Exact.{Exact, exact-never, exact-worded, exact-bind, exact-then, exact-after, exact-map, exact-loose, exact-any, exact-choose, exact-joined, exact-single, exact-pair}
use Rattle.og_syntax.proofs.ExpressionRules.{expr_begins, exact-expr}

-- what an atom begins with
abbrev pub atom_begins : Sort → Bool
atom_begins a = is k.LeftParen a || is k.Empty a || is k.Contains a || expr_begins a

-- what a negation begins with
abbrev pub neg_begins : Sort → Bool
neg_begins a = is k.Not a || atom_begins a

-- conj
pub exact-conj_of : {neg : Reads CondText} {Neg : Rule CondText} → Exact false neg_begins after_expr neg Neg → Exact false neg_begins after_conj (conj_of neg) (IsConjOf Neg)
unfolding conj_of IsConjOf same_sort
exact-conj_of E = exact-map (exact-joined E (exact-after k.And refl E) refl refl) all_of

-- cond, of such negations
pub exact-cond_of : {neg : Reads CondText} {Neg : Rule CondText} → Exact false neg_begins after_expr neg Neg → Exact false neg_begins after_cond (cond_of neg) (IsCondOf Neg)
unfolding cond_of IsCondOf same_sort
exact-cond_of E = exact-map (exact-joined (exact-conj_of E) (exact-after k.Or refl (exact-conj_of E)) refl refl) any_of

-- cmp expr
pub exact-compare : (script : List ℕ) (strict : Bool) (x : ExprText) → Exact false (has comparison_of) after_expr (compare script strict x) (IsCompare script strict x)
unfolding compare IsCompare same_sort
exact-compare script strict x =
    exact-loose (exact-then (exact-worded comparison_of refl) (λ op. exact-map (exact-expr script strict) (λ y. c.Compare op x y))) refl refl

-- pred expr
pub exact-relate : (script : List ℕ) (strict : Bool) (x : ExprText) → Exact false (has predicate_of) after_expr (relate script strict x) (IsRelate script strict x)
unfolding relate IsRelate same_sort
exact-relate script strict x =
    exact-loose (exact-then (exact-worded predicate_of refl) (λ pred. exact-map (exact-expr script strict) (λ y. c.Relate pred x y))) refl refl

-- expr cmp expr, and expr pred expr
pub exact-relation : (script : List ℕ) (strict : Bool) → Exact false expr_begins after_expr (relation script strict) (IsRelation script strict)
unfolding relation IsRelation same_sort
exact-relation script strict =
    exact-loose
    (exact-bind (exact-expr script strict)
    (λ x. exact-choose (has comparison_of) (exact-compare script strict x) (exact-relate script strict x) refl refl) refl)
    refl refl

-- atom
pub exact-atom_of : (script : List ℕ) (strict : Bool) {neg : Reads CondText} {Neg : Rule CondText} → Exact false neg_begins after_expr neg Neg
    → Exact false atom_begins after_expr (atom_of script strict neg) (IsAtomOf script strict Neg)
unfolding atom_of IsAtomOf same_sort
exact-atom_of script strict E =
    exact-loose
    (exact-choose (is k.LeftParen) (exact-any (exact-single (exact-cond_of E) refl))
    (exact-choose (is k.Empty) (exact-any (exact-after k.Empty refl (exact-map (exact-single (exact-expr script strict) refl) c.Empty)))
    (exact-choose (is k.Contains) (exact-any (exact-after k.Contains refl (exact-map (exact-pair (exact-expr script strict) refl refl) (λ xs. c.Contains xs.0 xs.1))))
    (exact-relation script strict) refl refl) refl refl) refl refl)
    refl refl

-- neg
pub exact-neg_in : (script : List ℕ) (strict : Bool) (d : ℕ) → Exact false neg_begins after_expr (neg_in script strict d) (IsNegIn script strict d)
unfolding neg_in IsNegIn same_sort
exact-neg_in script strict zero = exact-loose exact-never refl refl
exact-neg_in script strict (suc d) =
    exact-loose
    (exact-choose (is k.Not) (exact-after k.Not refl (exact-map (exact-neg_in script strict d) c.Not)) (exact-atom_of script strict (exact-neg_in script strict d)) refl refl)
    refl refl

-- cond
pub exact-cond : (script : List ℕ) (strict : Bool) → Exact false neg_begins after_cond (cond script strict) (IsCond script strict)
unfolding cond IsCond
exact-cond script strict = record {
  sound = λ ts. (exact-cond_of (exact-neg_in script strict (length ts))).sound ts;
  complete = λ ts. (exact-cond_of (exact-neg_in script strict (length ts))).complete ts;
  lead = λ ts. (exact-cond_of (exact-neg_in script strict (length ts))).lead ts;
}
