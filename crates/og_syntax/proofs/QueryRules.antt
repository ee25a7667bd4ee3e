-- Each reader of the parts of a query is its rule.
use Rattle.std.proofs.Common.{◌≡◌, inl, inr, ℕ, Bool, true, false, not, ◌&&◌, ◌||◌, List, Some, None, drop, refl, ap, ◌∙◌, subst}
use Rattle.og_syntax.specs.declared.lexeme.Sort.{Sort}
use Rattle.og_syntax.specs.declared.lexeme.Sort.TheVariants as k
use Rattle.og_syntax.specs.declared.lexeme.Lexeme.{Lexeme}
use Rattle.og_syntax.specs.declared.tree.ItemsText.TheVariants as i
use Rattle.og_syntax.specs.declared.tree.SemiText.{SemiText}
use Rattle.og_syntax.specs.Lexemes.{is, same_sort, sort_at, sees}
use Rattle.og_syntax.specs.Clauses.{item_of, table_of, semi_of}
use Rattle.og_syntax.specs.Reader.{as_name, alias, fitem, item, item_list, items, goes_on, first_table, joined_table, further_table, tables, sub, semi, semis, begins_semi}
use Rattle.og_syntax.specs.Grammar.{IsAlias, IsFitem, IsItem, IsItemList, IsItems, IsFirstTable, IsJoinedTable, IsFurtherTable, IsTables, IsSub, IsSemi, IsSemis}
use Rattle.og_syntax.specs.Follow.{after_cond, after_alias, after_item, after_items, after_table, after_tables, after_sub, after_semis, ahead, anything}
use Rattle.og_syntax.proofs.Exact.{Exact, same_self, right_of, not_true, or_left, or_right, shrinks, exact-pure, exact-tok, exact-bind, exact-after, exact-map, exact-loose, exact-ends, exact-any, exact-choose, exact-choose_if, exact-optional, exact-joined, exact-single}
use Rattle.og_syntax.proofs.LiteralRules.{exact-name}
use Rattle.og_syntax.proofs.ExpressionRules.{expr_begins, exact-expr, two_lexemes}
use Rattle.og_syntax.proofs.ConditionRules.{exact-cond}

-- ---- names of tables, and their aliases

-- where nothing that goes on with an alias comes, no alias does
no_alias : (ts rest : List Lexeme) → rest ≡ ts → ahead after_alias rest ≡ true → as_name ts ≡ false
unfolding as_name sees
no_alias ts rest e after =
    subst (λ r. (same_sort (sort_at r) k.As && same_sort (sort_at (drop 1 r)) k.Name) ≡ false) e
    (not_true _ (right_of (not (is k.Name (sort_at rest))) _ after))

-- an alias, or none
pub exact-alias : (script : List ℕ) → Exact true (λ a. is k.Name a || is k.As a) after_alias (alias script) (IsAlias script)
unfolding alias IsAlias as_name same_sort
exact-alias script =
    exact-loose
    (exact-choose (is k.Name) (exact-any {G = after_alias} (exact-map (exact-name script) Some))
    (exact-choose_if as_name (exact-any (exact-after k.As refl (exact-map (exact-name script) Some))) (exact-any (exact-pure None))
    (λ ts x rest h after. two_lexemes k.As k.Name ts h.1 h.2 (shrinks (exact-name script) h.1 h.3.0 h.3.1 h.3.2).0)
    (λ ts x rest h after. no_alias ts rest h.1 after))
    refl refl)
    refl refl

-- fitem
pub exact-fitem : (script : List ℕ) → Exact false (is k.Name) after_alias (fitem script) (IsFitem script)
unfolding fitem IsFitem same_sort
exact-fitem script = exact-loose (exact-bind (exact-name script) (λ x. exact-map (exact-alias script) (λ y. (x, y))) refl) refl refl

-- ---- items

-- item
pub exact-item : (script : List ℕ) (strict : Bool) → Exact false expr_begins after_item (item script strict) (IsItem script strict)
unfolding item IsItem same_sort
exact-item script strict =
    exact-loose
    (exact-bind (exact-expr script strict)
    (λ x. exact-map (exact-ends after_item (exact-optional (is k.As) (exact-after k.As refl (exact-name script)) refl) refl) (item_of x)) refl)
    refl refl

-- item (, item)*
pub exact-item_list : (script : List ℕ) (strict : Bool) → Exact false expr_begins after_items (item_list script strict) (IsItemList script strict)
unfolding item_list IsItemList same_sort
exact-item_list script strict = exact-joined (exact-item script strict) (exact-after k.Comma refl (exact-item script strict)) refl refl

-- items
pub exact-items : (script : List ℕ) (strict : Bool) → Exact false (λ a. is k.Star a || expr_begins a) after_items (items script strict) (IsItems script strict)
unfolding items IsItems same_sort
exact-items script strict =
    exact-loose
    (exact-choose (is k.Star) (exact-any {G = after_items} (exact-map (exact-tok k.Star refl) (λ _. i.Star))) (exact-map (exact-item_list script strict) i.List) refl refl)
    refl refl

-- ---- tables

-- fitem, as a table
pub exact-first_table : (script : List ℕ) → Exact false (is k.Name) after_alias (first_table script) (IsFirstTable script)
unfolding first_table IsFirstTable
exact-first_table script = exact-map (exact-fitem script) (λ x. table_of x None)

-- JOIN fitem ON cond
pub exact-joined_table : (script : List ℕ) (strict : Bool) → Exact false (is k.Join) after_cond (joined_table script strict) (IsJoinedTable script strict)
unfolding joined_table IsJoinedTable same_sort
exact-joined_table script strict =
    exact-after k.Join refl (exact-bind (exact-fitem script) (λ x. exact-after k.On refl (exact-map (exact-cond script strict) (λ y. table_of x (Some y)))) refl)

-- more
pub exact-further_table : (script : List ℕ) (strict : Bool) → Exact false goes_on after_table (further_table script strict) (IsFurtherTable script strict)
unfolding further_table IsFurtherTable same_sort
exact-further_table script strict =
    exact-loose
    (exact-choose (is k.Comma) (exact-ends after_table (exact-after k.Comma refl (exact-first_table script)) refl) (exact-ends after_table (exact-joined_table script strict) refl) refl refl)
    refl refl

-- from
pub exact-tables : (script : List ℕ) (strict : Bool) → Exact false (is k.Name) after_tables (tables script strict) (IsTables script strict)
unfolding tables IsTables same_sort
exact-tables script strict = exact-joined (exact-first_table script) (exact-further_table script strict) refl refl

-- ---- EXISTS

-- sub
pub exact-sub : (script : List ℕ) (strict : Bool) → Exact false (is k.Select) after_sub (sub script strict) (IsSub script strict)
unfolding sub IsSub same_sort
exact-sub script strict =
    exact-after k.Select refl (exact-after k.Star refl (exact-after k.From refl
    (exact-bind (exact-fitem script)
    (λ x. exact-map (exact-ends after_sub (exact-optional (is k.Where) (exact-after k.Where refl (exact-cond script strict)) refl) refl) (λ y. (x, y))) refl)))

-- what a condition of EXISTS begins with
abbrev pub semi_begins : Sort → Bool
semi_begins a = is k.Exists a || is k.Not a

-- semi
pub exact-semi : (script : List ℕ) (strict : Bool) → Exact false semi_begins anything (semi script strict) (IsSemi script strict)
unfolding semi IsSemi same_sort
exact-semi script strict =
    exact-choose (is k.Exists) (exact-after k.Exists refl (exact-map (exact-single (exact-sub script strict) refl) (semi_of true)))
    (exact-after k.Not refl (exact-after k.Exists refl (exact-map (exact-single (exact-sub script strict) refl) (semi_of false)))) refl refl

-- semi (AND semi)*
pub exact-semis : (script : List ℕ) (strict : Bool) → Exact false semi_begins after_semis (semis script strict) (IsSemis script strict)
unfolding semis IsSemis same_sort
exact-semis script strict = exact-joined (exact-semi script strict) (exact-after k.And refl (exact-semi script strict)) refl refl

-- EXISTS or NOT EXISTS comes where such a condition stands
pub semi_comes : (script : List ℕ) (strict : Bool) (ts : List Lexeme) (x : SemiText) (rest : List Lexeme) → IsSemi script strict ts x rest → begins_semi ts ≡ true
unfolding begins_semi IsSemi sees
semi_comes script strict ts x rest (inl h) =
    or_left _ _ (ap (λ ts. same_sort (sort_at ts) k.Exists) h.2.1 ∙ ap (λ s. same_sort s k.Exists) h.2.2 ∙ same_self k.Exists)
semi_comes script strict ts x rest (inr h) =
    or_right (same_sort (sort_at ts) k.Exists) _
    (two_lexemes k.Not k.Exists ts h.1 h.2 (ap (λ ts. same_sort (sort_at ts) k.Exists) h.3.2.1 ∙ ap (λ s. same_sort s k.Exists) h.3.2.2 ∙ same_self k.Exists))

-- EXISTS or NOT EXISTS comes where such conditions stand
pub semis_come : (script : List ℕ) (strict : Bool) (ts : List Lexeme) (xs : List SemiText) (rest : List Lexeme) → IsSemis script strict ts xs rest → begins_semi ts ≡ true
unfolding IsSemis
semis_come script strict ts xs rest h = semi_comes script strict ts h.0 h.1 h.2
