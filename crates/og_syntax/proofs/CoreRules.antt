-- Each reader of cores and of queries is its rule.
use Rattle.std.proofs.Common.{ℕ, Bool, true, false, List, refl}
use Rattle.og_syntax.specs.declared.lexeme.Sort.TheVariants as k
use Rattle.og_syntax.specs.Lexemes.{is, same_sort}
use Rattle.og_syntax.specs.Meanings.{set_op_of}
use Rattle.og_syntax.specs.Reading.{has}
use Rattle.og_syntax.specs.Clauses.{core_of, rest_of, query_of}
use Rattle.og_syntax.specs.Reader.{core, further_core, query}
use Rattle.og_syntax.specs.Grammar.{IsCore, IsFurtherCore, IsQuery}
use Rattle.og_syntax.specs.Follow.{after_core, after_query}
use Rattle.og_syntax.proofs.Exact.{Exact, exact-worded, exact-bind, exact-then, exact-after, exact-map, exact-loose, exact-ends, exact-optional, exact-more}
use Rattle.og_syntax.proofs.QueryRules.{exact-items, exact-tables}
use Rattle.og_syntax.proofs.WhereRules.{exact-wcond}

-- core
pub exact-core : (script : List ℕ) (strict live : Bool) → Exact false (is k.Select) after_core (core script strict live) (IsCore script strict live)
unfolding core IsCore same_sort
exact-core script strict live =
    exact-after k.Select refl
    (exact-bind (exact-items script strict) (λ xs. exact-after k.From refl
    (exact-bind (exact-tables script strict)
    (λ ts. exact-map (exact-ends after_core (exact-optional (is k.Where) (exact-after k.Where refl (exact-wcond script strict live)) refl) refl) (core_of xs ts)) refl)) refl)

-- setop core
pub exact-further_core : (script : List ℕ) (strict live : Bool) → Exact false (has (set_op_of live)) after_core (further_core script strict live) (IsFurtherCore script strict live)
unfolding further_core IsFurtherCore same_sort
exact-further_core script strict true =
    exact-loose (exact-then (exact-worded (set_op_of true) refl) (λ op. exact-map (exact-core script strict true) (rest_of op))) refl refl
exact-further_core script strict false =
    exact-loose (exact-then (exact-worded (set_op_of false) refl) (λ op. exact-map (exact-core script strict false) (rest_of op))) refl refl

-- query
pub exact-query : (script : List ℕ) (strict live : Bool) → Exact false (is k.Select) after_query (query script strict live) (IsQuery script strict live)
unfolding query IsQuery same_sort
exact-query script strict true =
    exact-loose (exact-bind (exact-core script strict true) (λ x. exact-map (exact-more (exact-further_core script strict true) refl) (query_of x)) refl) refl refl
exact-query script strict false =
    exact-loose (exact-bind (exact-core script strict false) (λ x. exact-map (exact-more (exact-further_core script strict false) refl) (query_of x)) refl) refl refl
