-- Queries that are checked fit the names and kinds that they name.
use Rattle.std.proofs.Common.{◌≡◌, ◌≤◌, ◌+◌, ◌&&◌, ◌++◌, ℕ, true, List, [], ◌∷◌, Option, Some, None, Ok, map, length, slice_get, refl, ap, sym, subst, ◌∙◌, append_assoc, append-nil, length-append, arith}
use Rattle.std.specs.List.{AllByRecursion, flat_map, list_all}
use Rattle.std.proofs.lemmas.List.{map-append}
use Rattle.std.proofs.lemmas.List.Elements.{All-from_recursion}
use Rattle.std.proofs.lemmas.List.Folds.{list_all-append}
use Rattle.std.proofs.lemmas.Grind.{flat_map-append}
use Rattle.og_value.specs.Limits.{max_columns}
use Rattle.og_value.specs.declared.kind.Kind.{Kind}
use Rattle.og_value.specs.declared.schema.Column.{Column}
use Rattle.og_syntax.specs.declared.tree.FromText.{FromText}
use Rattle.og_syntax.specs.declared.tree.SemiText.{SemiText}
use Rattle.og_syntax.specs.declared.tree.ItemText.{ItemText}
use Rattle.og_syntax.specs.declared.tree.ItemsText.{ItemsText}
use Rattle.og_syntax.specs.declared.tree.ItemsText.TheVariants as items_
use Rattle.og_syntax.specs.declared.tree.CoreText.{CoreText}
use Rattle.og_syntax.specs.declared.tree.RestText.{RestText}
use Rattle.og_syntax.specs.declared.tree.QueryText.{QueryText}
use Rattle.og_query.specs.Kinds.{kinds_of, kind_in, fits}
use Rattle.og_query.specs.Fits.{Schemas, IsAsNamed, IsFitSemi, IsFitCore, IsFitRest, IsFitQuery}
use Rattle.og_query.specs.declared.expression.Expr.{Expr}
use Rattle.og_query.specs.declared.expression.Expr.TheVariants as e
use Rattle.og_query.specs.declared.condition.Cond.{Cond}
use Rattle.og_query.specs.declared.condition.Cond.TheVariants as c
use Rattle.og_query.specs.declared.query.From1.{From1}
use Rattle.og_query.specs.declared.query.Semi.{Semi}
use Rattle.og_query.specs.declared.query.Core.{Core}
use Rattle.og_query.specs.declared.query.Rest.{Rest}
use Rattle.og_query.specs.declared.query.Query.{Query}
use Rattle.og_query.proofs.Equations.{kind_in-Column, fits-And}
use Rattle.og_check.specs.Limits.{max_tables}
use Rattle.og_check.specs.Steps.{Checked, ◌>>=◌, ◌>>◌, pure, in_order, in_turn, agree, within}
use Rattle.og_check.specs.Sight.{Item, Sight, Found, joined, found}
use Rattle.og_check.specs.Expressions.{Kinded, expr_of, conds_of, where_of}
use Rattle.og_check.specs.Cores.{known_columns, alias_of, unused, sees, sees_sub, From, no_tables, with_table, from_of, semi_of, item_name, Shown, item_of, items_from, star_from, items_of, exprs_of, columns_of, schema_of, core_of, rest_of, query_of}
use Rattle.og_check.proofs.OkLemmas.{not_ok, ok_same, bind_ok, where_ok, agree_are, turn_keeps}
use Rattle.og_check.proofs.Parts.{kind}
use Rattle.og_check.proofs.SightFits.{found_fits, get_at, all_append}
use Rattle.og_check.proofs.ExpressionFits.{expr_fits, conds_fit, where_fits}

-- the kinds of a table
abbrev table_kinds : From1 → List Kind
table_kinds table = kinds_of table.schema

-- the kinds of items and one more
more_kinds : (items : List Item) (item : Item) → kinds_of (joined (items ++ item ∷ [])) ≡ kinds_of (joined items) ++ (kinds_of item.1 ++ [])
more_kinds items item =
    ap kinds_of (flat_map-append (λ i. i.1) items (item ∷ [])) ∙ map-append kind (joined items) (item.1 ++ []) ∙ ap (λ ks. kinds_of (joined items) ++ ks) (map-append kind item.1 [])

-- a name that may be asked has the columns
pub known_are : (name : List ℕ) (asked : Option (List Column)) (columns : List Column) → known_columns name asked ≡ Ok columns → asked ≡ Some columns
known_are name (Some xs) columns g = ap (λ z. Some z) (ok_same xs columns g)
known_are name None columns g = absurd (not_ok _ columns g)

-- what is checked of each of a list holds of each
pub in_order_all : {A B : Type 0} (f : A → Checked B) (P : B → Type 0) → ((x : A) (y : B) → f x ≡ Ok y → P y) → (xs : List A) (ys : List B) → in_order (map f xs) ≡ Ok ys → AllByRecursion P ys
in_order_all f P each [] ys g = subst (AllByRecursion P) (ok_same [] ys g) tt
in_order_all f P each (x ∷ xs) ys g =
    where_ok (f x) (λ y. do ys ← in_order (map f xs); pure (y ∷ ys)) ys (λ y h.
    where_ok (in_order (map f xs)) (λ more. pure (y ∷ more)) ys (λ more k e.
    subst (AllByRecursion P) (ok_same (y ∷ more) ys e) (each x y h, in_order_all f P each xs more k))) g

-- FROM so far fits: its tables have the columns of their names, in the order of its items, and its conditions fit the items, whatever comes after them
record IsFitFrom (schemas : Schemas) (from : From) : Type 0 where
  tables : AllByRecursion (IsAsNamed schemas) from.tables
  kinds : flat_map table_kinds from.tables ≡ kinds_of (joined from.items)
  conds : (back : List Kind) → list_all (fits (kinds_of (joined from.items) ++ back)) from.conds ≡ true

-- with a table and its conditions
abbrev joined_to : From → FromText → List Column → List Cond → From
joined_to from t columns conds = record {
  items = from.items ++ (alias_of t.name t.alias, columns) ∷ [];
  tables = from.tables ++ record { name = t.name; schema = columns } ∷ [];
  conds = from.conds ++ conds;
}

-- what is known of a table that was added
abbrev IsAdded : Schemas → From → FromText → From → Type 0
IsAdded schemas from t after =
    (columns : List Column) × (conds : List Cond) × (schemas t.name ≡ Some columns) × (conds_of (sees (from.items ++ (alias_of t.name t.alias, columns) ∷ [])) t.on ≡ Ok conds)
    × (joined_to from t columns conds ≡ after)

-- a table that was added is known, and its conditions were checked
added : (schemas : Schemas) (from : From) (t : FromText) (after : From) → with_table schemas from t ≡ Ok after → IsAdded schemas from t after
added schemas from t after g =
    let alias = alias_of t.name t.alias in
    where_ok (known_columns t.name (schemas t.name)) (λ xs. do unused alias from.items; conds ← conds_of (sees (from.items ++ (alias, xs) ∷ [])) t.on; pure (joined_to from t xs conds)) after (λ xs h.
    where_ok (unused alias from.items) (λ _. do conds ← conds_of (sees (from.items ++ (alias, xs) ∷ [])) t.on; pure (joined_to from t xs conds)) after (λ _ _.
    where_ok (conds_of (sees (from.items ++ (alias, xs) ∷ [])) t.on) (λ conds. pure (joined_to from t xs conds)) after (λ conds k e.
    (xs, conds, known_are t.name (schemas t.name) xs h, k, ok_same (joined_to from t xs conds) after e)))) g

-- FROM with a table and its conditions fits
joined_fits : (schemas : Schemas) (from : From) (t : FromText) (columns : List Column) (conds : List Cond) → schemas t.name ≡ Some columns
    → conds_of (sees (from.items ++ (alias_of t.name t.alias, columns) ∷ [])) t.on ≡ Ok conds → IsFitFrom schemas from → IsFitFrom schemas (joined_to from t columns conds)
joined_fits schemas from t columns conds named g h = record {
  tables = all_append (IsAsNamed schemas) from.tables (record { name = t.name; schema = columns } ∷ []) h.tables (named, tt);
  kinds =
      flat_map-append table_kinds from.tables (record { name = t.name; schema = columns } ∷ []) ∙ ap (λ ks. ks ++ (kinds_of columns ++ [])) h.kinds
      ∙ sym (more_kinds from.items (alias_of t.name t.alias, columns));
  conds = both;
}
  where
    items : List Item
    items = from.items ++ (alias_of t.name t.alias, columns) ∷ []

    earlier : (back : List Kind) → list_all (fits (kinds_of (joined (from.items ++ (alias_of t.name t.alias, columns) ∷ [])) ++ back)) from.conds ≡ true
    earlier back =
        ap (λ ks. list_all (fits ks) from.conds) (ap (λ ks. ks ++ back) (more_kinds from.items (alias_of t.name t.alias, columns)) ∙ append_assoc (kinds_of (joined from.items)) (kinds_of columns ++ []) back)
        ∙ h.conds ((kinds_of columns ++ []) ++ back)

    later : (back : List Kind) → list_all (fits (kinds_of (joined (from.items ++ (alias_of t.name t.alias, columns) ∷ [])) ++ back)) conds ≡ true
    later back =
        let sight = sees (from.items ++ (alias_of t.name t.alias, columns) ∷ []) in
        let kinds = kinds_of (joined (from.items ++ (alias_of t.name t.alias, columns) ∷ [])) ++ back in
        conds_fit sight kinds (found_fits sight kinds back refl) t.on conds g

    both : (back : List Kind) → list_all (fits (kinds_of (joined (from.items ++ (alias_of t.name t.alias, columns) ∷ [])) ++ back)) (from.conds ++ conds) ≡ true
    both back =
        let kinds = kinds_of (joined (from.items ++ (alias_of t.name t.alias, columns) ∷ [])) ++ back in
        list_all-append (fits kinds) from.conds conds ∙ (λ i. earlier back i && later back i)

-- FROM with one more table fits
with_table_fits : (schemas : Schemas) (from : From) (t : FromText) (after : From) → with_table schemas from t ≡ Ok after → IsFitFrom schemas from → IsFitFrom schemas after
with_table_fits schemas from t after g h =
    let a = added schemas from t after g in subst (IsFitFrom schemas) a.4 (joined_fits schemas from t a.0 a.1 a.2 a.3 h)

-- FROM with one more table has a table
some_table : (schemas : Schemas) (from : From) (t : FromText) (after : From) → with_table schemas from t ≡ Ok after → 1 ≤ length after.tables
some_table schemas from t after g =
    let a = added schemas from t after g in
    let count = length-append from.tables (record { name = t.name; schema = a.0 } ∷ []) in
    subst (λ f. 1 ≤ length f.tables) a.4 (omega (arith, count))

-- FROM without tables fits
none_fits : (schemas : Schemas) → IsFitFrom schemas no_tables
none_fits schemas = record { tables = tt; kinds = refl; conds = λ back. refl }

-- FROM that is checked fits
from_fits : (schemas : Schemas) (ts : List FromText) (from : From) → from_of schemas ts ≡ Ok from → IsFitFrom schemas from
from_fits schemas ts from g = turn_keeps (IsFitFrom schemas) (with_table schemas) (with_table_fits schemas) no_tables ts from g (none_fits schemas)

-- FROM of some tables has some
from_some : (schemas : Schemas) (ts : List FromText) (from : From) (u : Unit {0}) → within max_tables (length ts) ≡ Ok u → from_of schemas ts ≡ Ok from → 1 ≤ length from.tables
from_some schemas [] from u h g = absurd (not_ok _ u h)
from_some schemas (t ∷ ts) from u h g =
    where_ok (with_table schemas no_tables t) (λ after. in_turn (with_table schemas) after ts) from (λ after k e.
    turn_keeps (λ f. 1 ≤ length f.tables) (with_table schemas) (λ s x t k _. some_table schemas s x t k) after ts from e (some_table schemas no_tables t after k)) g

-- what a semi is made of
abbrev made_semi : SemiText → List Column → Cond → Semi
made_semi s xs cond = record { positive = s.positive; table = record { name = s.name; schema = xs }; cond = cond }

-- a semi that is checked fits the row of the core
semi_fits : (schemas : Schemas) (kinds : List Kind) (items : List Item) → kinds ≡ kinds_of (joined items) → (s : SemiText) (semi : Semi) → semi_of schemas items s ≡ Ok semi → IsFitSemi schemas kinds semi
semi_fits schemas kinds items f s semi g =
    let alias = alias_of s.name s.alias in
    where_ok (known_columns s.name (schemas s.name)) (λ xs. do unused alias items; cond ← where_of (sees_sub items (alias, xs)) s.cond; pure (made_semi s xs cond)) semi (λ xs h.
    where_ok (unused alias items) (λ _. do cond ← where_of (sees_sub items (alias, xs)) s.cond; pure (made_semi s xs cond)) semi (λ _ _.
    where_ok (where_of (sees_sub items (alias, xs)) s.cond) (λ cond. pure (made_semi s xs cond)) semi (λ cond k e.
    subst (IsFitSemi schemas kinds) (ok_same (made_semi s xs cond) semi e)
    (record {
      table = known_are s.name (schemas s.name) xs h;
      cond = where_fits (sees_sub items (alias, xs)) (kinds ++ kinds_of xs) (found_fits (sees_sub items (alias, xs)) (kinds ++ kinds_of xs) [] (behind xs)) s.cond cond k;
    })))) g
  where
    behind : (xs : List Column) → kinds ++ kinds_of xs ≡ kinds_of (joined items) ++ (kinds_of (xs ++ []) ++ [])
    behind xs = ap (λ ks. ks ++ kinds_of xs) f ∙ ap (λ ks. kinds_of (joined items) ++ ks) (sym (append-nil (kinds_of (xs ++ [])) ∙ ap kinds_of (append-nil xs)))

-- items that are shown have the kinds of their columns
abbrev AreShown : List Kind → List Shown → Type 0
AreShown kinds xs = map (kind_in kinds) (exprs_of xs) ≡ map (λ kind. Some kind) (kinds_of (columns_of xs))

-- an item of an expression and its kind
abbrev shown_of : ℕ → ItemText → Kinded → Shown
shown_of n item p = (p.0, record { name = item_name n item; kind = p.1 })

-- an item that is checked has the kind of its column
item_fits : (sight : Sight) (kinds : List Kind) → ((table : Option (List ℕ)) (name : List ℕ) (x : Found) → found sight table name ≡ Ok x → slice_get kinds x.0 ≡ Some x.1)
    → (n : ℕ) (item : ItemText) (x : Shown) → item_of sight n item ≡ Ok x → kind_in kinds x.0 ≡ Some x.1.kind
item_fits sight kinds seen n item x g =
    where_ok (expr_of sight item.expr) (λ p. pure (shown_of n item p)) x (λ p h e.
    subst (λ y. kind_in kinds y.0 ≡ Some y.1.kind) (ok_same (shown_of n item p) x e) (expr_fits sight kinds seen item.expr p h)) g

-- the same of a list of items
items_fit : (sight : Sight) (kinds : List Kind) → ((table : Option (List ℕ)) (name : List ℕ) (x : Found) → found sight table name ≡ Ok x → slice_get kinds x.0 ≡ Some x.1)
    → (n : ℕ) (items : List ItemText) (xs : List Shown) → in_order (items_from sight n items) ≡ Ok xs → AreShown kinds xs
items_fit sight kinds seen n [] xs g = subst (AreShown kinds) (ok_same [] xs g) refl
items_fit sight kinds seen n (item ∷ items) xs g =
    where_ok (item_of sight n item) (λ x. do xs ← in_order (items_from sight (n + 1) items); pure (x ∷ xs)) xs (λ y h.
    where_ok (in_order (items_from sight (n + 1) items)) (λ ys. pure (y ∷ ys)) xs (λ ys k e.
    subst (AreShown kinds) (ok_same (y ∷ ys) xs e) (λ i. item_fits sight kinds seen n item y h i ∷ items_fit sight kinds seen (n + 1) items ys k i))) g

-- all columns, which stand from a place on, have their kinds
star_fits : (kinds : List Kind) (place : ℕ) (front : List Kind) (cs : List Column) (back : List Kind) → place ≡ length front → kinds ≡ front ++ (kinds_of cs ++ back) → AreShown kinds (star_from place cs)
star_fits kinds place front [] back f g = refl
star_fits kinds place front (x ∷ xs) back f g =
    (λ i. here i ∷ star_fits kinds (place + 1) (front ++ x.kind ∷ []) xs back count (g ∙ sym (append_assoc front (x.kind ∷ []) (kinds_of xs ++ back))) i)
  where
    here : kind_in kinds (e.Column place) ≡ Some x.kind
    here =
        kind_in-Column kinds place ∙ ap (λ ks. slice_get ks place) g ∙ ap (slice_get (front ++ x.kind ∷ (kinds_of xs ++ back))) f
        ∙ get_at front x.kind (kinds_of xs ++ back)

    count : place + 1 ≡ length (front ++ x.kind ∷ [])
    count = ap (λ n. n + 1) f ∙ sym (length-append front (x.kind ∷ []))

-- the items of SELECT have the kinds of their columns
select_fits : (kinds : List Kind) (items : List Item) → kinds ≡ kinds_of (joined items) ++ [] → (list : ItemsText) (xs : List Shown) → items_of items list ≡ Ok xs → AreShown kinds xs
select_fits kinds items f items_.Star xs g = subst (AreShown kinds) (ok_same (star_from 0 (joined items)) xs g) (star_fits kinds 0 [] (joined items) [] refl f)
select_fits kinds items f (items_.List list) xs g = items_fit (sees items) kinds (found_fits (sees items) kinds [] f) 1 list xs g

-- what a core is made of
abbrev made_core : From → List Cond → List Semi → List Expr → List Column → Core
made_core from conds semis items schema = record { tables = from.tables; cond = c.And (from.conds ++ conds); semis = semis; items = items; schema = schema }

-- a core of parts that fit fits
core_of_parts : (schemas : Schemas) (core : CoreText) (from : From) (conds : List Cond) (semis : List Semi) (xs : List Shown) → 1 ≤ length from.tables → IsFitFrom schemas from
    → conds_of (sees from.items) core.cond ≡ Ok conds → in_order (map (semi_of schemas from.items) core.semis) ≡ Ok semis → items_of from.items core.items ≡ Ok xs
    → IsFitCore schemas (made_core from conds semis (exprs_of xs) (columns_of xs))
core_of_parts schemas core from conds semis xs some h f g k = record {
  some = some;
  tables = All-from_recursion (IsAsNamed schemas) from.tables h.tables;
  cond = fits-And kinds (from.conds ++ conds) ∙ list_all-append (fits kinds) from.conds conds ∙ (λ i. earlier i && conds_fit sight kinds seen core.cond conds f i);
  semis = All-from_recursion (IsFitSemi schemas kinds) semis (in_order_all (semi_of schemas from.items) (IsFitSemi schemas kinds) (semi_fits schemas kinds from.items h.kinds) core.semis semis g);
  items = select_fits kinds from.items behind core.items xs k;
}
  where
    kinds : List Kind
    kinds = flat_map table_kinds from.tables

    sight : Sight
    sight = sees from.items

    behind : flat_map table_kinds from.tables ≡ kinds_of (joined from.items) ++ []
    behind = h.kinds ∙ sym (append-nil (kinds_of (joined from.items)))

    seen : (table : Option (List ℕ)) (name : List ℕ) (x : Found) → found (sees from.items) table name ≡ Ok x → slice_get (flat_map table_kinds from.tables) x.0 ≡ Some x.1
    seen = found_fits (sees from.items) (flat_map table_kinds from.tables) [] behind

    earlier : list_all (fits (flat_map table_kinds from.tables)) from.conds ≡ true
    earlier = ap (λ ks. list_all (fits ks) from.conds) behind ∙ h.conds []

-- a core with its items, as the checks make it
abbrev after_semis : CoreText → From → List Cond → List Semi → Checked Core
after_semis text from conds semis = do
  items ← items_of from.items text.items
  schema ← schema_of (columns_of items)
  pure (made_core from conds semis (exprs_of items) schema)

-- a core with its WHERE and what follows it
abbrev after_from : CoreText → Schemas → From → Checked Core
after_from text schemas from = do
  conds ← conds_of (sees from.items) text.cond
  semis ← in_order (map (semi_of schemas from.items) text.semis)
  after_semis text from conds semis

-- columns that are a schema are its columns
schema_is : (columns schema : List Column) → schema_of columns ≡ Ok schema → columns ≡ schema
schema_is columns schema g = let limit = bind_ok (within max_columns (length columns)) (λ _. pure columns) schema g in ok_same columns schema limit.2

-- a core fits where its items are checked after the rest
semis_fit_core : (schemas : Schemas) (text : CoreText) (core : Core) (from : From) (conds : List Cond) (semis : List Semi) → 1 ≤ length from.tables → IsFitFrom schemas from
    → conds_of (sees from.items) text.cond ≡ Ok conds → in_order (map (semi_of schemas from.items) text.semis) ≡ Ok semis → after_semis text from conds semis ≡ Ok core → IsFitCore schemas core
semis_fit_core schemas text core from conds semis some h f k g =
    where_ok (items_of from.items text.items) (λ items. do schema ← schema_of (columns_of items); pure (made_core from conds semis (exprs_of items) schema)) core (λ items i.
    where_ok (schema_of (columns_of items)) (λ schema. pure (made_core from conds semis (exprs_of items) schema)) core (λ schema s e.
    subst (IsFitCore schemas) (ok_same (made_core from conds semis (exprs_of items) schema) core e)
    (subst (λ s. IsFitCore schemas (made_core from conds semis (exprs_of items) s)) (schema_is (columns_of items) schema s) (core_of_parts schemas text from conds semis items some h f k i)))) g

-- a core fits where WHERE and what follows it are checked after FROM
from_fit_core : (schemas : Schemas) (text : CoreText) (core : Core) (from : From) → 1 ≤ length from.tables → IsFitFrom schemas from → after_from text schemas from ≡ Ok core → IsFitCore schemas core
from_fit_core schemas text core from some h g =
    where_ok (conds_of (sees from.items) text.cond) (λ conds. do semis ← in_order (map (semi_of schemas from.items) text.semis); after_semis text from conds semis) core (λ conds f.
    where_ok (in_order (map (semi_of schemas from.items) text.semis)) (after_semis text from conds) core (λ semis k e.
    semis_fit_core schemas text core from conds semis some h f k e)) g

-- a SELECT that is checked fits
pub core_fits : (schemas : Schemas) (text : CoreText) (core : Core) → core_of schemas text ≡ Ok core → IsFitCore schemas core
core_fits schemas text core g =
    where_ok (within max_tables (length text.tables)) (λ _. do from ← from_of schemas text.tables; after_from text schemas from) core (λ u h.
    where_ok (from_of schemas text.tables) (after_from text schemas) core (λ from k e.
    from_fit_core schemas text core from (from_some schemas text.tables from u h k) (from_fits schemas text.tables from k) e)) g

-- a further SELECT that is checked fits
rest_fits : (schemas : Schemas) (first : Core) (text : RestText) (rest : Rest) → rest_of schemas first text ≡ Ok rest → IsFitRest schemas first rest
rest_fits schemas first text rest g =
    where_ok (core_of schemas text.core) (λ core. do agree (kinds_of core.schema) (kinds_of first.schema); pure (record { op = text.op; core = core })) rest (λ core h.
    where_ok (agree (kinds_of core.schema) (kinds_of first.schema)) (λ _. pure (record { op = text.op; core = core })) rest (λ u k e.
    subst (IsFitRest schemas first) (ok_same (record { op = text.op; core = core }) rest e)
    (record { core = core_fits schemas text.core core h; kinds = agree_are (kinds_of core.schema) (kinds_of first.schema) u k }))) g

-- a query that is checked fits
pub query_fits : (schemas : Schemas) (text : QueryText) (query : Query) → query_of schemas text ≡ Ok query → IsFitQuery schemas query
query_fits schemas text query g =
    where_ok (core_of schemas text.first) (λ first. do rest ← in_order (map (rest_of schemas first) text.rest); pure (record { first = first; rest = rest })) query (λ first h.
    where_ok (in_order (map (rest_of schemas first) text.rest)) (λ rest. pure (record { first = first; rest = rest })) query (λ rest k e.
    subst (IsFitQuery schemas) (ok_same (record { first = first; rest = rest }) query e)
    (record {
      first = core_fits schemas text.first first h;
      rest = All-from_recursion (IsFitRest schemas first) rest (in_order_all (rest_of schemas first) (IsFitRest schemas first) (rest_fits schemas first) text.rest rest k);
    }))) g
