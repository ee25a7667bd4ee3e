-- A SELECT, by the parts of its checks.
use Rattle.std.proofs.Common.{◌≡◌, ◌+◌, ◌++◌, ℕ, List, [], ◌∷◌, Ok, map, length, length-append, ap, sym, ◌∙◌}
use Rattle.og_value.specs.declared.schema.Column.{Column}
use Rattle.og_syntax.specs.declared.tree.CoreText.{CoreText}
use Rattle.og_syntax.specs.declared.tree.FromText.{FromText}
use Rattle.og_syntax.specs.declared.tree.SemiText.{SemiText}
use Rattle.og_query.specs.Fits.{Schemas}
use Rattle.og_query.specs.declared.condition.Cond.{Cond}
use Rattle.og_query.specs.declared.condition.Cond.TheVariants as c
use Rattle.og_query.specs.declared.expression.Expr.{Expr}
use Rattle.og_query.specs.declared.query.Core.{Core}
use Rattle.og_query.specs.declared.query.From1.{From1}
use Rattle.og_query.specs.declared.query.Semi.{Semi}
use Rattle.og_check.specs.Cores.{known_columns, alias_of, unused, sees, From, with_table, semi_of, Shown, items_of, exprs_of, columns_of, schema_of}
use Rattle.og_check.specs.Expressions.{conds_of}
use Rattle.og_check.specs.Fronts.{with_front}
use Rattle.og_check.specs.Selects.{after_from, shown_of}
use Rattle.og_check.specs.Sight.{Item, Sight}
use Rattle.og_check.specs.Steps.{Checked, ◌>>=◌, ◌>>◌, pure, in_order}
use Rattle.og_check.proofs.GivesLemmas.{steps}

-- what FROM gives
abbrev made_from : List Item → List From1 → List Cond → From
made_from items tables conds = record { items = items; tables = tables; conds = conds }

-- a table that is added, where the items and the tables with it are given, and so are the conditions
pub adds : (schemas : Schemas) (from : From) (t : FromText) (columns : List Column) (u : Unit {0}) (alias : List ℕ) (before : List Item) (item : Item) (items seen : List Item) (table : From1) (tables : List From1)
    (sight : Sight) (r : Checked (List Cond)) → known_columns t.name (schemas t.name) ≡ Ok columns → alias ≡ alias_of t.name t.alias → before ≡ from.items → unused alias before ≡ Ok u
    → item ≡ (alias, columns) → items ≡ from.items ++ item ∷ [] → table ≡ record { name = t.name; schema = columns } → tables ≡ from.tables ++ table ∷ []
    → seen ≡ items → sight ≡ sees seen → with_front from.conds (conds_of sight t.on) ≡ r → with_table schemas from t ≡ (do conds ← r; pure (made_from items tables conds))
adds schemas from t columns u alias before item items seen table tables sight r known alias_is before_is free item_is items_are table_is tables_are seen_are sight_is given =
    ap (λ p. p >>= unused_columns) known ∙ ap (λ p. p >> with_columns columns) ((λ i. unused (sym alias_is i) (sym before_is i)) ∙ free)
    ∙ (λ i. do conds ← conds_of (sees (sym all i)) t.on; pure (made_from (sym all i) (sym with_it i) (from.conds ++ conds)))
    ∙ steps (conds_of (sees items) t.on) (λ conds. pure (from.conds ++ conds)) (λ conds. pure (made_from items tables conds))
    ∙ ap (λ p. do conds ← p; pure (made_from items tables conds)) (ap (λ s. with_front from.conds (conds_of s t.on)) (sym (sight_is ∙ ap sees seen_are)) ∙ given)
  where
    all : items ≡ from.items ++ (alias_of t.name t.alias, columns) ∷ []
    all = items_are ∙ ap (λ x. from.items ++ x ∷ []) (item_is ∙ ap (λ a. (a, columns)) alias_is)

    with_it : tables ≡ from.tables ++ record { name = t.name; schema = columns } ∷ []
    with_it = tables_are ∙ ap (λ x. from.tables ++ x ∷ []) table_is

    with_columns : List Column → Checked From
    with_columns columns = do
      conds ← conds_of (sees (from.items ++ (alias_of t.name t.alias, columns) ∷ [])) t.on
      pure (made_from (from.items ++ (alias_of t.name t.alias, columns) ∷ []) (from.tables ++ record { name = t.name; schema = columns } ∷ []) (from.conds ++ conds))

    unused_columns : List Column → Checked From
    unused_columns columns = do unused (alias_of t.name t.alias) from.items; with_columns columns

-- one item more
pub one_longer : (before : List Item) (item : Item) (items : List Item) → items ≡ before ++ item ∷ [] → length items ≡ length before + 1
one_longer before item items e = ap length e ∙ length-append before (item ∷ [])

-- a SELECT of its conditions and of its semis, whose items and schema are a pair
abbrev made_core : From → List Cond → List Semi → List Expr × List Column → Core
made_core from conds semis shown = record { tables = from.tables; cond = c.And conds; semis = semis; items = shown.0; schema = shown.1 }

-- a SELECT after FROM, where its conditions and its semis are given, and so are its items and their schema
pub selects : (schemas : Schemas) (core : CoreText) (from : From) (seen items : List Item) (texts : List SemiText) (sight : Sight) (conds : List Cond) (semis : List Semi) (r : Checked (List Expr × List Column))
    → seen ≡ from.items → sight ≡ sees seen → with_front from.conds (conds_of sight core.cond) ≡ Ok conds
    → items ≡ from.items → texts ≡ core.semis → in_order (map (semi_of schemas items) texts) ≡ Ok semis → shown_of items core.items ≡ r
    → after_from schemas core from ≡ (do shown ← r; pure (made_core from conds semis shown))
selects schemas core from seen items texts sight conds semis r seen_are sight_is e items_are texts_are f g =
    steps (conds_of (sees from.items) core.cond) (λ xs. pure (from.conds ++ xs)) after_where
    ∙ ap (λ p. p >>= after_where) (ap (λ s. with_front from.conds (conds_of s core.cond)) (sym (sight_is ∙ ap sees seen_are)) ∙ e)
    ∙ ap (λ p. p >>= after_semis conds) ((λ i. in_order (map (semi_of schemas (sym items_are i)) (sym texts_are i))) ∙ f)
    ∙ ap (λ k. items_of from.items core.items >>= k) (λ i shown. steps (schema_of (columns_of shown)) (λ schema. pure (exprs_of shown, schema)) (λ x. pure (made_core from conds semis x)) i)
    ∙ steps (items_of from.items core.items) with_schema (λ x. pure (made_core from conds semis x))
    ∙ ap (λ p. do x ← p; pure (made_core from conds semis x)) (ap (λ xs. shown_of xs core.items) (sym items_are) ∙ g)
  where
    with_schema : List Shown → Checked (List Expr × List Column)
    with_schema shown = do schema ← schema_of (columns_of shown); pure (exprs_of shown, schema)

    after_semis : List Cond → List Semi → Checked Core
    after_semis conds semis = do shown ← items_of from.items core.items; schema ← schema_of (columns_of shown); pure (made_core from conds semis (exprs_of shown, schema))

    after_where : List Cond → Checked Core
    after_where conds = do semis ← in_order (map (semi_of schemas from.items) core.semis); after_semis conds semis
